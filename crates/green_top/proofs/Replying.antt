-- Replies that are read one after another.
use Rattle.std.proofs.Common.{Fits, w8, ◌≡◌, ◌≢◌, ℕ, ◌+◌, ◌<◌, ◌≤◌, Bool, true, false, List, [], ◌∷◌, ◌++◌, length, take, drop, get_or, refl, ap, ◌∙◌, sym, subst, arith, All}
use Rattle.std.specs.Prelude.{codes, decimal, ◌==◌, if◌then◌else◌}
use Rattle.std.specs.List.{flat_map, AllByRecursion}
use Rattle.std.proofs.lemmas.List.{length-append, length-take, length-drop, append_cancel_left, take-append-drop, take-append-le, get_or_append_left, get_or-append-add}
use Rattle.std.proofs.lemmas.Bool.{eqb-true}
use Rattle.std.proofs.lemmas.List.Sums.{sum_by-cons}
use Rattle.std.proofs.lemmas.List.Elements.{All-from_get_or, All-nil, All-cons}
use Rattle.std.proofs.Math.Seq.{take-length}
use Rattle.febe_data.specs.Plain.{PlainItem, bytes, link, PlainReply, inserted, copied, rearranged, deleted, has_quit, account_set, closed, gave_span_set, gave_whole_span, retrieved, related, created, versioned, linked, opened, followed, found_documents, gave_end_sets, counted_links, found_links, gave_next_links, refused, published}
use Rattle.febe_data.specs.Refusal.{refusal_number}
use Rattle.febe_data.specs.FieldValues.{reply_values}
use Rattle.febe_data.specs.Spelling.{spell_number, spell_item, spell_list, spell_value}
use Rattle.febe_data.specs.Validity.{IsReply}
use Rattle.febe_fields.specs.Prefixes.{HasNoSpelledPrefix}
use Rattle.febe_reply.specs.ReplyLaw.{OneReply}
use Rattle.febe_data.specs.declared.reply.Reply.{Reply}
use Rattle.febe_reply.specs.declared.got.GotReply.{GotReply}
use Rattle.febe_reply.specs.declared.got.GotReply.TheVariants as got_answers
use Rattle.febe_reply.specs.Reads.{IsReadReply, IsGotReply}
use Rattle.febe_reply.specs.ReplyGrammar.{reply_head, spell_reply, HoldsBytes, HasBytes, SpellsReply, IsSpelledReply}
use Rattle.green_top.specs.Summary.{is_refusal, refusals_in}
use Rattle.green_top.specs.inside.Summing.{SpellReplies, AreReplies}

-- ---- the bytes of a reply are bytes, so those of its texts are

abbrev AreBytes : List ℕ → Type 0
AreBytes xs = All (λ b. b < 256) xs

pub all_bytes : (xs : List ℕ) → ((i : ℕ) → Fits w8 (get_or xs i 0)) → AreBytes xs
all_bytes xs fit = All-from_get_or (λ b. b < 256) xs 0 (λ i lt. omega (arith, fit i))

pub front_are : (xs ys : List ℕ) → AreBytes (xs ++ ys) → AreBytes xs
front_are xs ys are = λ k d lt. subst (λ (n : ℕ). n < 256) (get_or_append_left xs ys d k lt) (are k d (omega (arith, lt, length-append xs ys)))

pub back_are : (xs ys : List ℕ) → AreBytes (xs ++ ys) → AreBytes ys
back_are xs ys are = λ k d lt. subst (λ (n : ℕ). n < 256) (get_or-append-add xs ys k d) (are (length xs + k) d (omega (arith, lt, length-append xs ys)))

holds_bytes : (item : PlainItem) → AreBytes (spell_item item) → HoldsBytes item
holds_bytes (bytes text) are = back_are ((codes "t" ++ decimal (length text)) ++ codes ":") text are
holds_bytes (link id) are = tt

hold_bytes : (items : List PlainItem) → AreBytes (flat_map spell_item items) → All HoldsBytes items
hold_bytes [] are = All-nil HoldsBytes
hold_bytes (item ∷ items) are = All-cons HoldsBytes item items (holds_bytes item (front_are (spell_item item) (flat_map spell_item items) are)) (hold_bytes items (back_are (spell_item item) (flat_map spell_item items) are))

has_bytes : (reply : PlainReply) → AreBytes (spell_reply reply) → AllByRecursion HasBytes (reply_values reply)
has_bytes inserted are = tt
has_bytes copied are = tt
has_bytes rearranged are = tt
has_bytes deleted are = tt
has_bytes has_quit are = tt
has_bytes account_set are = tt
has_bytes closed are = tt
has_bytes (gave_span_set spans) are = (tt, tt)
has_bytes (gave_whole_span span) are = (tt, tt)
has_bytes (retrieved items) are = (hold_bytes items (back_are (spell_number (length items)) (flat_map spell_item items) (front_are (spell_list spell_item items) [] (back_are (spell_number 5) (spell_list spell_item items ++ []) are))), tt)
has_bytes (related diagonals) are = (tt, tt)
has_bytes (created document) are = (tt, tt)
has_bytes (versioned document) are = (tt, tt)
has_bytes (linked id) are = (tt, tt)
has_bytes (opened document) are = (tt, tt)
has_bytes (followed specs) are = (tt, tt)
has_bytes (found_documents documents) are = (tt, tt)
has_bytes (gave_end_sets from to three) are = (tt, (tt, (tt, tt)))
has_bytes (counted_links count) are = (tt, tt)
has_bytes (found_links ids) are = (tt, tt)
has_bytes (gave_next_links ids) are = (tt, tt)
has_bytes (refused refusal) are = tt
has_bytes published are = tt

-- ---- one reply

number_filled : (n : ℕ) (xs : List ℕ) → 0 < length (spell_number n ++ xs)
number_filled n xs = omega (arith, length-append (decimal n ++ codes "~") xs, length-append (decimal n) (codes "~"))

filled : (reply : PlainReply) → 0 < length (spell_reply reply)
filled inserted = number_filled 0 _
filled copied = number_filled 2 _
filled rearranged = number_filled 3 _
filled deleted = number_filled 12 _
filled has_quit = number_filled 16 _
filled account_set = number_filled 34 _
filled closed = number_filled 36 _
filled (gave_span_set spans) = number_filled 1 _
filled (gave_whole_span span) = number_filled 14 _
filled (retrieved items) = number_filled 5 _
filled (related diagonals) = number_filled 10 _
filled (created document) = number_filled 11 _
filled (versioned document) = number_filled 13 _
filled (linked id) = number_filled 27 _
filled (opened document) = number_filled 35 _
filled (followed specs) = number_filled 18 _
filled (found_documents documents) = number_filled 22 _
filled (gave_end_sets from to three) = number_filled 28 _
filled (counted_links count) = number_filled 29 _
filled (found_links ids) = number_filled 30 _
filled (gave_next_links ids) = number_filled 31 _
filled published = number_filled 40 _
filled (refused refusal) = omega (arith, length-append (reply_head (refused refusal)) (flat_map spell_value (reply_values (refused refusal))), length-append (codes "?") (spell_number (refusal_number refusal)))

first_spells : (reply : PlainReply) (rest : List ℕ) → IsReply reply → AreBytes (spell_reply reply ++ rest) → SpellsReply (spell_reply reply) reply
first_spells reply rest valid are = record { valid = valid; texts = has_bytes reply (front_are (spell_reply reply) rest are); spelled = refl }

-- bytes that spell some replies begin with one
pub no_spelled_prefix : (input : List ℕ) (replies : List PlainReply) → SpellReplies input replies → AreBytes input → 0 < length input → ¬ HasNoSpelledPrefix IsSpelledReply input
no_spelled_prefix input [] spell are some none = omega (arith, some, ap length spell.spelled)
no_spelled_prefix input (reply ∷ replies) spell are some none =
    let rest = flat_map spell_reply replies in
    let first : SpellsReply (spell_reply reply) reply = first_spells reply rest spell.valid.0 (subst AreBytes spell.spelled are) in
    let n = length (spell_reply reply) in
    let within : n ≤ length input = omega (arith, ap length spell.spelled, length-append (spell_reply reply) rest) in
    let taken : take n input ≡ spell_reply reply = ap (take n) spell.spelled ∙ take-append-le n (spell_reply reply) rest (omega arith) ∙ take-length (spell_reply reply) in
    none n within (record { reply = reply; spells = subst (λ (bytes : List ℕ). SpellsReply bytes reply) (sym taken) first })

-- what was read is the first reply, and the others stand behind it
pub record IsFirst (input : List ℕ) (reply : PlainReply) (used : ℕ) (replies : List PlainReply) : Type 0 where
  pub behind : List PlainReply
  pub parts : replies ≡ reply ∷ behind
  pub spell : SpellReplies (drop used input) behind
  pub some : 0 < used

pub first_read : OneReply → (input : List ℕ) (reply : PlainReply) (used : ℕ) (replies : List PlainReply) → SpellReplies input replies → AreBytes input → 0 < length input → IsReadReply input reply used → IsFirst input reply used replies
first_read one input reply used [] spell are some read = absurd (omega (arith, some, ap length spell.spelled))
first_read one input reply used (first ∷ replies) spell are some read =
    let rest = flat_map spell_reply replies in
    let spells : SpellsReply (spell_reply first) first = first_spells first rest spell.valid.0 (subst AreBytes spell.spelled are) in
    let whole : take used input ++ drop used input ≡ spell_reply first ++ rest = take-append-drop used input ∙ spell.spelled in
    let same = one (take used input) (spell_reply first) (drop used input) rest reply first read.spells spells whole in
    record {
      behind = replies;
      parts = ap (λ (r : PlainReply). r ∷ replies) (sym same.1);
      spell = record { spelled = append_cancel_left (spell_reply first) (drop used input) rest (ap (λ (bytes : List ℕ). bytes ++ drop used input) (sym same.0) ∙ whole); valid = spell.valid.1 };
      some = omega (arith, ap length same.0, length-take used input, read.within, filled first);
    }

-- ---- the loop

-- So many refusals were counted, and the rest of the bytes is still to be read: whatever replies all the bytes spell, the rest spells
-- some, and what was counted are the refusals of the others.
abbrev pub Counted : (all rest : List ℕ) → ℕ → Type 0
Counted all rest count = (replies : List PlainReply) → SpellReplies all replies → (behind : List PlainReply) × SpellReplies rest behind × (count + refusals_in behind ≡ refusals_in replies)

pub none_counted : (all : List ℕ) → Counted all all 0
none_counted all replies spell = (replies, spell, omega arith)

pub all_counted : (all rest : List ℕ) (count : ℕ) → length rest ≡ 0 → Counted all rest count → (replies : List PlainReply) → SpellReplies all replies → count ≡ refusals_in replies
all_counted all rest count over counted replies spell = by (counted replies spell).0 (counted replies spell).1 (counted replies spell).2
  where
    by : (behind : List PlainReply) → SpellReplies rest behind → count + refusals_in behind ≡ refusals_in replies → count ≡ refusals_in replies
    by [] s e = omega (arith, e)
    by (reply ∷ more) s e = absurd (omega (arith, over, ap length s.spelled, length-append (spell_reply reply) (flat_map spell_reply more), filled reply))

zero-plus : (n : ℕ) → 0 + n ≡ n
zero-plus n = omega arith

abbrev one_for : PlainReply → ℕ
one_for reply = if is_refusal reply then 1 else 0

one_more_in : (reply : PlainReply) (behind : List PlainReply) → refusals_in (reply ∷ behind) ≡ refusals_in (reply ∷ []) + refusals_in behind
one_more_in reply behind = sum_by-cons one_for reply behind ∙ ap (λ (n : ℕ). n + refusals_in behind) (sym (zero-plus (one_for reply)))

pub counted_more : OneReply → (all rest : List ℕ) (count used : ℕ) (reply : PlainReply) (now : ℕ) → AreBytes rest → 0 < length rest → IsReadReply rest reply used → now ≡ count + refusals_in (reply ∷ []) → Counted all rest count → Counted all (drop used rest) now
counted_more one all rest count used reply now are some read is counted replies spell =
    let before = counted replies spell in
    let first = first_read one rest reply used before.0 before.1 are some read in
    (first.behind, first.spell, omega (arith, is, before.2, ap refusals_in first.parts, one_more_in reply first.behind))

-- what stands at the start of bytes that spell some replies is a reply
pub is_reply : (input : List ℕ) (got : GotReply) → AreBytes input → 0 < length input → AreReplies input → IsGotReply input got → ((reply : Reply) (used : ℕ) → got ≢ got_answers.Reply reply used) → ⊥
is_reply input (got_answers.Reply reply used) are some spell is other = other reply used refl
is_reply input got_answers.More are some spell is other = no_spelled_prefix input spell.0 spell.1 are some is.none
is_reply input (got_answers.Bad at) are some spell is other = no_spelled_prefix input spell.0 spell.1 are some is.none

pub still_replies : (all rest : List ℕ) (count : ℕ) → AreReplies all → Counted all rest count → AreReplies rest
still_replies all rest count spell counted = ((counted spell.0 spell.1).0, (counted spell.0 spell.1).1)

pub fewer : OneReply → (rest : List ℕ) (count used more most : ℕ) (reply : PlainReply) → AreBytes rest → 0 < length rest → IsReadReply rest reply used → AreReplies rest → more ≤ 1 → count + length rest ≤ most → (count + more) + length (drop used rest) ≤ most
fewer one rest count used more most reply are some read spell few room =
    let first = first_read one rest reply used spell.0 spell.1 are some read in
    omega (arith, few, room, first.some, read.within, length-drop used rest)

pub not_empty : (xs : List ℕ) (empty : Bool) → empty ≡ (length xs == 0) → empty ≡ false → 0 < length xs
not_empty [] empty is some = absurd (let a = is in let b = some in cc)
not_empty (x ∷ xs) empty is some = omega arith

pub is_none : (xs : List ℕ) (empty : Bool) → empty ≡ (length xs == 0) → empty ≡ true → length xs ≡ 0
is_none xs empty is so = eqb-true (length xs) 0 (sym is ∙ so)
