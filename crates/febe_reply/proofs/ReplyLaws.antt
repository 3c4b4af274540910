-- A valid reply is read again from its spelling, whatever stands behind it.
use Rattle.std.proofs.Common.{◌≡◌, ℕ, ◌<◌, ◌≤◌, List, [], ◌∷◌, ◌++◌, length, Some, refl, sym, ap, subst, ◌∙◌, append_assoc, arith, inl, inr}
use Rattle.std.specs.Prelude.{◌==◌}
use Rattle.std.specs.List.{flat_map}
use Rattle.std.proofs.lemmas.Bool.{cases_Bool, eqb-true}
use Rattle.std.proofs.lemmas.Option.{some_pair_parts}
use Rattle.std.proofs.lemmas.List.{append-nil}
use Rattle.std.proofs.lemmas.List.Elements.{All-nil, All-cons}
use Rattle.tumbler.specs.declared.span.Span.{Span}
use Rattle.tumbler.specs.Places.{IsTumbler}
use Rattle.febe_data.specs.declared.refusal.Refusal.{Refusal}
use Rattle.febe_data.specs.declared.refusal.Refusal.TheVariants.{NoAccount, NoSuchDocument, Private, NotOpen, NotOpenForWriting, NotOwner, Conflict, BadAddress, BadCuts, NoSuchLink, NoSuchEnd, TooLong, Full, Disk, Memory}
use Rattle.febe_data.specs.declared.run.Diagonal.{Diagonal}
use Rattle.febe_data.specs.Refusal.{refusal_number}
use Rattle.febe_data.specs.Plain.{PlainSpec, PlainItem, bytes, link, PlainReply, inserted, copied, rearranged, deleted, has_quit, account_set, closed, gave_span_set, gave_whole_span, retrieved, related, created, versioned, linked, opened, followed, found_documents, gave_end_sets, counted_links, found_links, gave_next_links, refused, published}
use Rattle.febe_data.specs.FieldValues.{reply_values}
use Rattle.febe_data.specs.Spelling.{spell_number, spell_tumbler, spell_text, spell_span, spell_list, spell_spec, spell_item, spell_text_address, spell_diagonal, spell_value}
use Rattle.febe_data.specs.Validity.{IsList, IsItem, IsDiagonal, IsReply}
use Rattle.febe_fields.specs.Reading.{digits_at, number_at, all_places_at, tumbler_at}
use Rattle.febe_fields.proofs.FieldLaws.{number_again, tumbler_again, text_again}
use Rattle.febe_fields.proofs.ListLaws.{tumblers_again, span_again, spans_again, specs_again, list_again}
use Rattle.febe_reply.specs.ReplyGrammar.{spell_reply}
use Rattle.febe_reply.specs.ReplyLaw.{OneReply}
use Rattle.febe_reply.specs.inside.Reading.{refusal_of, refused_at, text_item_at, link_item_at, item_at, retrieved_at, text_address_at, diagonal_at, related_at, reply_with_tumbler, with_tumbler_at, reply_with_tumblers, with_tumblers_at, with_nothing_at, span_set_at, whole_span_at, followed_at, end_sets_at, link_count_at, reply_of, numbered_at, reply_at}

-- ---- parts one behind the other, and what stands behind them

one_part : (a rest : List ℕ) → (a ++ []) ++ rest ≡ a ++ rest
one_part a rest = simp append-nil

three_parts : (a b c rest : List ℕ) → (a ++ (b ++ (c ++ []))) ++ rest ≡ a ++ (b ++ (c ++ rest))
three_parts a b c rest = simp (append_assoc, append-nil)

-- ---- refusals

refusal_again : (r : Refusal) → refusal_of (refusal_number r) ≡ Some r
refusal_again NoAccount = refl
refusal_again NoSuchDocument = refl
refusal_again Private = refl
refusal_again NotOpen = refl
refusal_again NotOpenForWriting = refl
refusal_again NotOwner = refl
refusal_again Conflict = refl
refusal_again BadAddress = refl
refusal_again BadCuts = refl
refusal_again NoSuchLink = refl
refusal_again NoSuchEnd = refl
refusal_again TooLong = refl
refusal_again Full = refl
refusal_again Disk = refl
refusal_again Memory = refl

-- the numbers of refusals
pub refusal_bounds : (r : Refusal) → (1 ≤ refusal_number r) × (refusal_number r ≤ 15)
refusal_bounds NoAccount = (omega arith, omega arith)
refusal_bounds NoSuchDocument = (omega arith, omega arith)
refusal_bounds Private = (omega arith, omega arith)
refusal_bounds NotOpen = (omega arith, omega arith)
refusal_bounds NotOpenForWriting = (omega arith, omega arith)
refusal_bounds NotOwner = (omega arith, omega arith)
refusal_bounds Conflict = (omega arith, omega arith)
refusal_bounds BadAddress = (omega arith, omega arith)
refusal_bounds BadCuts = (omega arith, omega arith)
refusal_bounds NoSuchLink = (omega arith, omega arith)
refusal_bounds NoSuchEnd = (omega arith, omega arith)
refusal_bounds TooLong = (omega arith, omega arith)
refusal_bounds Full = (omega arith, omega arith)
refusal_bounds Disk = (omega arith, omega arith)
refusal_bounds Memory = (omega arith, omega arith)

refused_again : (r : Refusal) (rest : List ℕ) → reply_at (spell_reply (refused r) ++ rest) ≡ Some (refused r, rest)
unfolding reply_at refused_at
refused_again r rest =
    let small : refusal_number r < 4294967296 = omega (arith, (refusal_bounds r).1) in
    ap refused_at (one_part (spell_number (refusal_number r)) rest) ∙ rw (number_again (refusal_number r) rest small, refusal_again r) refl

-- ---- items

text_begins : (input : List ℕ) → item_at (116 ∷ input) ≡ text_item_at (116 ∷ input)
unfolding item_at
text_begins input = refl

-- no tumbler begins with a t
link_begins : (input : List ℕ) (x : PlainItem × List ℕ) → link_item_at input ≡ Some x → item_at input ≡ Some x
unfolding item_at link_item_at tumbler_at all_places_at digits_at
link_begins [] x e = absurd cc
link_begins (b ∷ input) x e =
    elim (cases_Bool (b == 116)) [
      | inl is ↦ absurd (no_letter input x (subst (λ (c : ℕ). link_item_at (c ∷ input) ≡ Some x) (eqb-true _ _ is) e))
      | inr other ↦ rw other e
    ] where
      no_letter : (input : List ℕ) (x : PlainItem × List ℕ) → link_item_at (116 ∷ input) ≡ Some x → ⊥
      no_letter input x e = cc e

text_item_again : (text rest : List ℕ) → length text ≤ 16777216 → text_item_at (spell_text text ++ rest) ≡ Some (bytes text, rest)
unfolding text_item_at
text_item_again text rest short = rw (text_again text rest short) refl

link_item_again : (id rest : List ℕ) → IsTumbler id → link_item_at (spell_tumbler id ++ rest) ≡ Some (link id, rest)
unfolding link_item_at
link_item_again id rest h = rw (tumbler_again id rest h) refl

item_again : (item : PlainItem) (rest : List ℕ) → IsItem item → item_at (spell_item item ++ rest) ≡ Some (item, rest)
item_again (bytes text) rest h = text_begins _ ∙ text_item_again text rest h
item_again (link id) rest h = link_begins (spell_tumbler id ++ rest) (link id, rest) (link_item_again id rest h)

-- ---- diagonals

position_is : (position : ℕ) → 1 ≤ position → position < 4294967296 → IsTumbler (1 ∷ position ∷ [])
position_is position some small = record {
  few = omega arith;
  small = All-cons (λ p. p < 4294967296) 1 (position ∷ []) (omega arith) (All-cons (λ p. p < 4294967296) position [] small (All-nil (λ p. p < 4294967296)));
  ends = λ e. absurd (omega (arith, some, e));
}

address_again : (position : ℕ) (rest : List ℕ) → 1 ≤ position → position < 4294967296 → text_address_at (spell_text_address position ++ rest) ≡ Some (position, rest)
unfolding text_address_at
address_again position rest some small = rw (tumbler_again (1 ∷ position ∷ []) rest (position_is position some small)) refl

diagonal_again : (d : Diagonal) (rest : List ℕ) → IsDiagonal d → diagonal_at (spell_diagonal d ++ rest) ≡ Some (d, rest)
unfolding diagonal_at
diagonal_again d rest h =
    let a = spell_text_address d.left in
    let b = spell_text_address d.right in
    let c = spell_number d.length in
    ap diagonal_at (append_assoc (a ++ b) c rest ∙ append_assoc a b (c ++ rest))
    ∙ rw (address_again d.left (b ++ (c ++ rest)) h.left h.left_bound, address_again d.right (c ++ rest) h.right h.right_bound, number_again d.length rest h.length_bound) refl

-- ---- what stands behind the number

-- what a reply of this number gives is read again
abbrev PartsAgain : ℕ → PlainReply → List ℕ → Type 0
PartsAgain n r rest = reply_of n (flat_map spell_value (reply_values r) ++ rest) ≡ Some (r, rest)

tumbler_alone : (n : ℕ) (places rest : List ℕ) (r : PlainReply) → IsTumbler places → reply_with_tumbler n places ≡ Some r → with_tumbler_at n ((spell_tumbler places ++ []) ++ rest) ≡ Some (r, rest)
unfolding with_tumbler_at
tumbler_alone n places rest r h e =
    ap (with_tumbler_at n) (one_part (spell_tumbler places) rest) ∙ rw (tumbler_again places rest h, e) refl

tumblers_alone : (n : ℕ) (tumblers : List (List ℕ)) (rest : List ℕ) (r : PlainReply) → IsList IsTumbler tumblers → reply_with_tumblers n tumblers ≡ Some r → with_tumblers_at n ((spell_list spell_tumbler tumblers ++ []) ++ rest) ≡ Some (r, rest)
unfolding with_tumblers_at
tumblers_alone n tumblers rest r h e =
    ap (with_tumblers_at n) (one_part (spell_list spell_tumbler tumblers) rest) ∙ rw (tumblers_again tumblers rest h, e) refl

span_set_again : (spans : List Span) (rest : List ℕ) → IsReply (gave_span_set spans) → PartsAgain 1 (gave_span_set spans) rest
unfolding reply_of span_set_at
span_set_again spans rest h = ap span_set_at (one_part (spell_list spell_span spans) rest) ∙ rw (spans_again spans rest h.0) refl

retrieved_again : (items : List PlainItem) (rest : List ℕ) → IsReply (retrieved items) → PartsAgain 5 (retrieved items) rest
unfolding reply_of retrieved_at
retrieved_again items rest h = ap retrieved_at (one_part (spell_list spell_item items) rest) ∙ rw (list_again IsItem item_at spell_item item_again items rest h.0) refl

related_again : (diagonals : List Diagonal) (rest : List ℕ) → IsReply (related diagonals) → PartsAgain 10 (related diagonals) rest
unfolding reply_of related_at
related_again diagonals rest h = ap related_at (one_part (spell_list spell_diagonal diagonals) rest) ∙ rw (list_again IsDiagonal diagonal_at spell_diagonal diagonal_again diagonals rest h.0) refl

whole_span_again : (span : Span) (rest : List ℕ) → IsReply (gave_whole_span span) → PartsAgain 14 (gave_whole_span span) rest
unfolding reply_of whole_span_at
whole_span_again span rest h = ap whole_span_at (one_part (spell_span span) rest) ∙ rw (span_again span rest h.0) refl

followed_again : (specs : List PlainSpec) (rest : List ℕ) → IsReply (followed specs) → PartsAgain 18 (followed specs) rest
unfolding reply_of followed_at
followed_again specs rest h = ap followed_at (one_part (spell_list spell_spec specs) rest) ∙ rw (specs_again specs rest h.0.list) refl

end_sets_again : (from to three : List PlainSpec) (rest : List ℕ) → IsReply (gave_end_sets from to three) → PartsAgain 28 (gave_end_sets from to three) rest
unfolding reply_of end_sets_at
end_sets_again from to three rest h =
    let a = spell_list spell_spec from in
    let b = spell_list spell_spec to in
    let c = spell_list spell_spec three in
    ap end_sets_at (three_parts a b c rest)
    ∙ rw (specs_again from (b ++ (c ++ rest)) h.0.list, specs_again to (c ++ rest) h.1.0.list, specs_again three rest h.1.1.0.list) refl

link_count_again : (count : ℕ) (rest : List ℕ) → IsReply (counted_links count) → PartsAgain 29 (counted_links count) rest
unfolding reply_of link_count_at
link_count_again count rest h = ap link_count_at (one_part (spell_number count) rest) ∙ rw (number_again count rest h.0) refl

-- ---- replies

-- no number begins with a question mark
numbered : (input : List ℕ) (x : PlainReply × List ℕ) → numbered_at input ≡ Some x → reply_at input ≡ Some x
unfolding reply_at numbered_at number_at digits_at
numbered [] x e = absurd cc
numbered (b ∷ input) x e =
    elim (cases_Bool (b == 63)) [
      | inl is ↦ absurd (no_mark input x (subst (λ (c : ℕ). numbered_at (c ∷ input) ≡ Some x) (eqb-true _ _ is) e))
      | inr other ↦ rw other e
    ] where
      no_mark : (input : List ℕ) (x : PlainReply × List ℕ) → numbered_at (63 ∷ input) ≡ Some x → ⊥
      no_mark input x e = cc e

read_behind : (n : ℕ) (parts rest : List ℕ) (x : PlainReply × List ℕ) → n < 4294967296 → reply_of n (parts ++ rest) ≡ Some x → numbered_at ((spell_number n ++ parts) ++ rest) ≡ Some x
unfolding numbered_at
read_behind n parts rest x small e = ap numbered_at (append_assoc (spell_number n) parts rest) ∙ rw (number_again n (parts ++ rest) small) e

behind_number : (n : ℕ) (parts rest : List ℕ) (x : PlainReply × List ℕ) → n < 4294967296 → reply_of n (parts ++ rest) ≡ Some x → reply_at ((spell_number n ++ parts) ++ rest) ≡ Some x
behind_number n parts rest x small e = numbered ((spell_number n ++ parts) ++ rest) x (read_behind n parts rest x small e)

nothing_alone : (n : ℕ) (r : PlainReply) (rest : List ℕ) → n < 4294967296 → reply_of n rest ≡ Some (r, rest) → reply_at ((spell_number n ++ []) ++ rest) ≡ Some (r, rest)
nothing_alone n r rest small e = behind_number n [] rest (r, rest) small e

-- a valid reply is read from its spelling, whatever stands behind it
pub reply_again : (r : PlainReply) (rest : List ℕ) → IsReply r → reply_at (spell_reply r ++ rest) ≡ Some (r, rest)
unfolding reply_of with_nothing_at
reply_again inserted rest h = nothing_alone 0 inserted rest (omega arith) refl
reply_again copied rest h = nothing_alone 2 copied rest (omega arith) refl
reply_again rearranged rest h = nothing_alone 3 rearranged rest (omega arith) refl
reply_again deleted rest h = nothing_alone 12 deleted rest (omega arith) refl
reply_again has_quit rest h = nothing_alone 16 has_quit rest (omega arith) refl
reply_again account_set rest h = nothing_alone 34 account_set rest (omega arith) refl
reply_again closed rest h = nothing_alone 36 closed rest (omega arith) refl
reply_again published rest h = nothing_alone 40 published rest (omega arith) refl
reply_again (gave_span_set spans) rest h = behind_number 1 (spell_list spell_span spans ++ []) rest (gave_span_set spans, rest) (omega arith) (span_set_again spans rest h)
reply_again (gave_whole_span span) rest h = behind_number 14 (spell_span span ++ []) rest (gave_whole_span span, rest) (omega arith) (whole_span_again span rest h)
reply_again (retrieved items) rest h = behind_number 5 (spell_list spell_item items ++ []) rest (retrieved items, rest) (omega arith) (retrieved_again items rest h)
reply_again (related diagonals) rest h = behind_number 10 (spell_list spell_diagonal diagonals ++ []) rest (related diagonals, rest) (omega arith) (related_again diagonals rest h)
reply_again (created document) rest h = behind_number 11 (spell_tumbler document ++ []) rest (created document, rest) (omega arith) (tumbler_alone 11 document rest (created document) h.0 refl)
reply_again (versioned document) rest h = behind_number 13 (spell_tumbler document ++ []) rest (versioned document, rest) (omega arith) (tumbler_alone 13 document rest (versioned document) h.0 refl)
reply_again (linked id) rest h = behind_number 27 (spell_tumbler id ++ []) rest (linked id, rest) (omega arith) (tumbler_alone 27 id rest (linked id) h.0 refl)
reply_again (opened document) rest h = behind_number 35 (spell_tumbler document ++ []) rest (opened document, rest) (omega arith) (tumbler_alone 35 document rest (opened document) h.0 refl)
reply_again (followed specs) rest h = behind_number 18 (spell_list spell_spec specs ++ []) rest (followed specs, rest) (omega arith) (followed_again specs rest h)
reply_again (found_documents documents) rest h = behind_number 22 (spell_list spell_tumbler documents ++ []) rest (found_documents documents, rest) (omega arith) (tumblers_alone 22 documents rest (found_documents documents) h.0 refl)
reply_again (gave_end_sets from to three) rest h = behind_number 28 (flat_map spell_value (reply_values (gave_end_sets from to three))) rest (gave_end_sets from to three, rest) (omega arith) (end_sets_again from to three rest h)
reply_again (counted_links count) rest h = behind_number 29 (spell_number count ++ []) rest (counted_links count, rest) (omega arith) (link_count_again count rest h)
reply_again (found_links ids) rest h = behind_number 30 (spell_list spell_tumbler ids ++ []) rest (found_links ids, rest) (omega arith) (tumblers_alone 30 ids rest (found_links ids) h.0 refl)
reply_again (gave_next_links ids) rest h = behind_number 31 (spell_list spell_tumbler ids ++ []) rest (gave_next_links ids, rest) (omega arith) (tumblers_alone 31 ids rest (gave_next_links ids) h.0 refl)
reply_again (refused r) rest h = refused_again r rest

-- ---- no spelling begins another

record IsSame (r s : PlainReply) (x y : List ℕ) : Type 0 where
  reply : r ≡ s
  behind : x ≡ y

same_reply : (r s : PlainReply) (x y : List ℕ) → IsReply r → IsReply s → spell_reply r ++ x ≡ spell_reply s ++ y → IsSame r s x y
same_reply r s x y h g e =
    let p = some_pair_parts r s x y (sym (reply_again r x h) ∙ ap reply_at e ∙ reply_again s y g) in
    record { reply = p.0; behind = p.1 }

pub one_form : OneReply
one_form a b x y r s h g e =
    let whole : spell_reply r ++ x ≡ spell_reply s ++ y = ap (λ (ds : List ℕ). ds ++ x) (sym h.spelled) ∙ e ∙ ap (λ (ds : List ℕ). ds ++ y) g.spelled in
    let same = same_reply r s x y h.valid g.valid whole in
    (h.spelled ∙ ap spell_reply same.reply ∙ sym g.spelled, same.reply)
