-- A valid request is read again from its spelling, whatever stands behind it.
use Rattle.std.proofs.Common.{◌≡◌, ℕ, ◌<◌, List, [], ◌++◌, length, Some, refl, sym, ap, ◌∙◌, append_assoc, arith}
use Rattle.std.specs.Prelude.{codes, decimal}
use Rattle.std.specs.List.{flat_map}
use Rattle.std.proofs.lemmas.Option.{some_pair_parts}
use Rattle.std.proofs.lemmas.List.{append-nil, length-append}
use Rattle.tumbler.specs.declared.span.Span.{Span}
use Rattle.tumbler.specs.Places.{IsTumbler}
use Rattle.febe_data.specs.declared.access.Mode.{Mode}
use Rattle.febe_data.specs.declared.access.Rule.{Rule}
use Rattle.febe_data.specs.Access.{mode_number, rule_number}
use Rattle.febe_data.specs.Plain.{PlainSpec, PlainWant, PlainRequest, insert, span_set, copy, rearrange, retrieve, relate, create, delete, version, whole_span, quit, follow, find_documents, create_link, end_sets, count_links, find_links, next_links, set_account, opens, closes, publish}
use Rattle.febe_data.specs.FieldValues.{request_number, request_values}
use Rattle.febe_data.specs.Spelling.{spell_number, spell_tumbler, spell_text, spell_span, spell_list, spell_spec, spell_value}
use Rattle.febe_data.specs.Validity.{IsSpan, IsList, IsSpec, IsRequest}
use Rattle.febe_fields.proofs.FieldLaws.{number_again, tumbler_again, text_again}
use Rattle.febe_fields.proofs.ListLaws.{mode_again, rule_again, tumblers_again, span_again, spans_again, spec_again, specs_again}
use Rattle.febe_wire.specs.Grammar.{spell_request}
use Rattle.febe_wire.specs.Laws.{OneForm}
use Rattle.febe_wire.specs.inside.Reading.{insert_at, copy_at, rearrange_at, delete_at, open_at, request_with_tumbler, with_tumbler_at, request_with_specs, with_specs_at, relate_at, create_link_at, follow_at, want_at, request_with_want, with_want_at, next_links_at, request_of, request_at}

-- ---- parts one behind the other, and what stands behind them

pub one_part : (a rest : List ℕ) → (a ++ []) ++ rest ≡ a ++ rest
one_part a rest = simp append-nil

pub two_parts : (a b rest : List ℕ) → (a ++ (b ++ [])) ++ rest ≡ a ++ (b ++ rest)
two_parts a b rest = simp (append_assoc, append-nil)

pub three_parts : (a b c rest : List ℕ) → (a ++ (b ++ (c ++ []))) ++ rest ≡ a ++ (b ++ (c ++ rest))
three_parts a b c rest = simp (append_assoc, append-nil)

pub four_parts : (a b c d rest : List ℕ) → (a ++ (b ++ (c ++ (d ++ [])))) ++ rest ≡ a ++ (b ++ (c ++ (d ++ rest)))
four_parts a b c d rest = simp (append_assoc, append-nil)

pub six_parts : (a b c d e f rest : List ℕ) → (a ++ (b ++ (c ++ (d ++ (e ++ (f ++ [])))))) ++ rest ≡ a ++ (b ++ (c ++ (d ++ (e ++ (f ++ rest)))))
six_parts a b c d e f rest = simp (append_assoc, append-nil)

-- ---- what stands behind the number

-- the parts of a request are read again
abbrev pub PartsAgain : PlainRequest → List ℕ → Type 0
PartsAgain r rest = request_of (request_number r) (flat_map spell_value (request_values r) ++ rest) ≡ Some (r, rest)

insert_again : (document at text rest : List ℕ) → IsRequest (insert document at text) → PartsAgain (insert document at text) rest
unfolding request_of insert_at
insert_again document at text rest h =
    ap insert_at (three_parts (spell_tumbler document) (spell_tumbler at) (spell_text text) rest)
    ∙ rw (tumbler_again document (spell_tumbler at ++ (spell_text text ++ rest)) h.0, tumbler_again at (spell_text text ++ rest) h.1.0, text_again text rest h.1.1.0.short) refl

copy_again : (document at : List ℕ) (specs : List PlainSpec) (rest : List ℕ) → IsRequest (copy document at specs) → PartsAgain (copy document at specs) rest
unfolding request_of copy_at
copy_again document at specs rest h =
    let s = spell_list spell_spec specs in
    ap copy_at (three_parts (spell_tumbler document) (spell_tumbler at) s rest)
    ∙ rw (tumbler_again document (spell_tumbler at ++ (s ++ rest)) h.0, tumbler_again at (s ++ rest) h.1.0, specs_again specs rest h.1.1.0.list) refl

rearrange_again : (document : List ℕ) (cuts : List (List ℕ)) (rest : List ℕ) → IsRequest (rearrange document cuts) → PartsAgain (rearrange document cuts) rest
unfolding request_of rearrange_at
rearrange_again document cuts rest h =
    let s = spell_list spell_tumbler cuts in
    ap rearrange_at (two_parts (spell_tumbler document) s rest)
    ∙ rw (tumbler_again document (s ++ rest) h.0, tumblers_again cuts rest h.1.0) refl

delete_again : (document : List ℕ) (span : Span) (rest : List ℕ) → IsRequest (delete document span) → PartsAgain (delete document span) rest
unfolding request_of delete_at
delete_again document span rest h =
    ap delete_at (two_parts (spell_tumbler document) (spell_span span) rest)
    ∙ rw (tumbler_again document (spell_span span ++ rest) h.0, span_again span rest h.1.0) refl

open_again : (document : List ℕ) (mode : Mode) (rule : Rule) (rest : List ℕ) → IsRequest (opens document mode rule) → PartsAgain (opens document mode rule) rest
unfolding request_of open_at
open_again document mode rule rest h =
    let m = spell_number (mode_number mode) in
    let r = spell_number (rule_number rule) in
    ap open_at (three_parts (spell_tumbler document) m r rest)
    ∙ rw (tumbler_again document (m ++ (r ++ rest)) h.0, mode_again mode (r ++ rest), rule_again rule rest) refl

relate_again : (left right : PlainSpec) (rest : List ℕ) → IsRequest (relate left right) → PartsAgain (relate left right) rest
unfolding request_of relate_at
relate_again left right rest h =
    ap relate_at (two_parts (spell_spec left) (spell_spec right) rest)
    ∙ rw (spec_again left (spell_spec right ++ rest) h.0, spec_again right rest h.1.0) refl

create_link_again : (home : List ℕ) (from to three : List PlainSpec) (rest : List ℕ) → IsRequest (create_link home from to three) → PartsAgain (create_link home from to three) rest
unfolding request_of create_link_at
create_link_again home from to three rest h =
    let a = spell_list spell_spec from in
    let b = spell_list spell_spec to in
    let c = spell_list spell_spec three in
    ap create_link_at (four_parts (spell_tumbler home) a b c rest)
    ∙ rw (tumbler_again home (a ++ (b ++ (c ++ rest))) h.0, specs_again from (b ++ (c ++ rest)) h.1.0.list, specs_again to (c ++ rest) h.1.1.0.list, specs_again three rest h.1.1.1.0.list) refl

follow_again : (link : List ℕ) (end : ℕ) (rest : List ℕ) → IsRequest (follow link end) → PartsAgain (follow link end) rest
unfolding request_of follow_at
follow_again link end rest h =
    ap follow_at (two_parts (spell_tumbler link) (spell_number end) rest)
    ∙ rw (tumbler_again link (spell_number end ++ rest) h.0, number_again end rest h.1.0) refl

-- ---- requests that give one thing alone

tumbler_alone : (n : ℕ) (places rest : List ℕ) (r : PlainRequest) → IsTumbler places → request_with_tumbler n places ≡ Some r → with_tumbler_at n ((spell_tumbler places ++ []) ++ rest) ≡ Some (r, rest)
unfolding with_tumbler_at
tumbler_alone n places rest r h e =
    ap (with_tumbler_at n) (one_part (spell_tumbler places) rest) ∙ rw (tumbler_again places rest h, e) refl

specs_alone : (n : ℕ) (specs : List PlainSpec) (rest : List ℕ) (r : PlainRequest) → IsList IsSpec specs → request_with_specs n specs ≡ Some r → with_specs_at n ((spell_list spell_spec specs ++ []) ++ rest) ≡ Some (r, rest)
unfolding with_specs_at
specs_alone n specs rest r h e =
    ap (with_specs_at n) (one_part (spell_list spell_spec specs) rest) ∙ rw (specs_again specs rest h, e) refl

-- what is looked for is something that the grammar can spell
pub record IsWant (want : PlainWant) : Type 0 where
  pub homes : IsList IsSpan want.homes
  pub from : IsList IsSpec want.from
  pub to : IsList IsSpec want.to
  pub three : IsList IsSpec want.three

-- how what is looked for is written, with more behind it
abbrev spell_want : PlainWant → List ℕ → List ℕ
spell_want want more = spell_list spell_span want.homes ++ (spell_list spell_spec want.from ++ (spell_list spell_spec want.to ++ (spell_list spell_spec want.three ++ more)))

want_again : (want : PlainWant) (rest : List ℕ) → IsWant want → want_at (spell_want want rest) ≡ Some (want, rest)
unfolding want_at
want_again want rest h =
    let a = spell_list spell_spec want.from in
    let b = spell_list spell_spec want.to in
    let c = spell_list spell_spec want.three in
    rw (spans_again want.homes (a ++ (b ++ (c ++ rest))) h.homes, specs_again want.from (b ++ (c ++ rest)) h.from, specs_again want.to (c ++ rest) h.to, specs_again want.three rest h.three) refl

want_alone : (n : ℕ) (want : PlainWant) (rest : List ℕ) (r : PlainRequest) → IsWant want → request_with_want n want ≡ Some r → with_want_at n (spell_want want [] ++ rest) ≡ Some (r, rest)
unfolding with_want_at
want_alone n want rest r h e =
    ap (with_want_at n) (four_parts (spell_list spell_span want.homes) (spell_list spell_spec want.from) (spell_list spell_spec want.to) (spell_list spell_spec want.three) rest) ∙ rw (want_again want rest h, e) refl

next_links_again : (want : PlainWant) (after : List ℕ) (limit : ℕ) (rest : List ℕ) → IsRequest (next_links want after limit) → PartsAgain (next_links want after limit) rest
unfolding request_of next_links_at
next_links_again want after limit rest h =
    let a = spell_tumbler after in
    let b = spell_number limit in
    let w : IsWant want = record { homes = h.0; from = h.1.0.list; to = h.1.1.0.list; three = h.1.1.1.0.list } in
    ap next_links_at (six_parts (spell_list spell_span want.homes) (spell_list spell_spec want.from) (spell_list spell_spec want.to) (spell_list spell_spec want.three) a b rest)
    ∙ rw (want_again want (a ++ (b ++ rest)) w, tumbler_again after (b ++ rest) h.1.1.1.1.0, number_again limit rest h.1.1.1.1.1.0) refl

-- ---- requests

parts_again : (r : PlainRequest) (rest : List ℕ) → IsRequest r → PartsAgain r rest
unfolding request_of
parts_again (insert document at text) rest h = insert_again document at text rest h
parts_again (span_set document) rest h = tumbler_alone 1 document rest (span_set document) h.0 refl
parts_again (copy document at specs) rest h = copy_again document at specs rest h
parts_again (rearrange document cuts) rest h = rearrange_again document cuts rest h
parts_again (retrieve specs) rest h = specs_alone 5 specs rest (retrieve specs) h.0.list refl
parts_again (relate left right) rest h = relate_again left right rest h
parts_again create rest h = refl
parts_again (delete document span) rest h = delete_again document span rest h
parts_again (version document) rest h = tumbler_alone 13 document rest (version document) h.0 refl
parts_again (whole_span document) rest h = tumbler_alone 14 document rest (whole_span document) h.0 refl
parts_again quit rest h = refl
parts_again (follow link end) rest h = follow_again link end rest h
parts_again (find_documents specs) rest h = specs_alone 22 specs rest (find_documents specs) h.0.list refl
parts_again (create_link home from to three) rest h = create_link_again home from to three rest h
parts_again (end_sets specs) rest h = specs_alone 28 specs rest (end_sets specs) h.0.list refl
parts_again (count_links want) rest h = want_alone 29 want rest (count_links want) record { homes = h.0; from = h.1.0.list; to = h.1.1.0.list; three = h.1.1.1.0.list } refl
parts_again (find_links want) rest h = want_alone 30 want rest (find_links want) record { homes = h.0; from = h.1.0.list; to = h.1.1.0.list; three = h.1.1.1.0.list } refl
parts_again (next_links want after limit) rest h = next_links_again want after limit rest h
parts_again (set_account account) rest h = tumbler_alone 34 account rest (set_account account) h.0 refl
parts_again (opens document mode rule) rest h = open_again document mode rule rest h
parts_again (closes document) rest h = tumbler_alone 36 document rest (closes document) h.0 refl
parts_again (publish document) rest h = tumbler_alone 40 document rest (publish document) h.0 refl

number_small : (r : PlainRequest) → request_number r < 4294967296
number_small (insert document at text) = omega arith
number_small (span_set document) = omega arith
number_small (copy document at specs) = omega arith
number_small (rearrange document cuts) = omega arith
number_small (retrieve specs) = omega arith
number_small (relate left right) = omega arith
number_small create = omega arith
number_small (delete document span) = omega arith
number_small (version document) = omega arith
number_small (whole_span document) = omega arith
number_small quit = omega arith
number_small (follow link end) = omega arith
number_small (find_documents specs) = omega arith
number_small (create_link home from to three) = omega arith
number_small (end_sets specs) = omega arith
number_small (count_links want) = omega arith
number_small (find_links want) = omega arith
number_small (next_links want after limit) = omega arith
number_small (set_account account) = omega arith
number_small (opens document mode rule) = omega arith
number_small (closes document) = omega arith
number_small (publish document) = omega arith

behind_number : (n : ℕ) (parts rest : List ℕ) (x : PlainRequest × List ℕ) → n < 4294967296 → request_of n (parts ++ rest) ≡ Some x → request_at ((spell_number n ++ parts) ++ rest) ≡ Some x
unfolding request_at
behind_number n parts rest x small e =
    ap request_at (append_assoc (spell_number n) parts rest) ∙ rw (number_again n (parts ++ rest) small) e

-- a valid request is read from its spelling, whatever stands behind it
pub request_again : (r : PlainRequest) (rest : List ℕ) → IsRequest r → request_at (spell_request r ++ rest) ≡ Some (r, rest)
request_again r rest h =
    behind_number (request_number r) (flat_map spell_value (request_values r)) rest (r, rest) (number_small r) (parts_again r rest h)

-- ---- no spelling begins another

-- what two spellings with something behind them tell, if the whole is the same
pub record IsSame (r s : PlainRequest) (x y : List ℕ) : Type 0 where
  pub request : r ≡ s
  pub behind : x ≡ y

pub same_request : (r s : PlainRequest) (x y : List ℕ) → IsRequest r → IsRequest s → spell_request r ++ x ≡ spell_request s ++ y → IsSame r s x y
same_request r s x y h g e =
    let p = some_pair_parts r s x y (sym (request_again r x h) ∙ ap request_at e ∙ request_again s y g) in
    record { request = p.0; behind = p.1 }

pub one_form : OneForm
one_form a b x y r s h g e =
    let whole : spell_request r ++ x ≡ spell_request s ++ y = ap (λ (bs : List ℕ). bs ++ x) (sym h.spelled) ∙ e ∙ ap (λ (bs : List ℕ). bs ++ y) g.spelled in
    let same = same_request r s x y h.valid g.valid whole in
    (h.spelled ∙ ap spell_request same.request ∙ sym g.spelled, same.request)

pub spelling_filled : (r : PlainRequest) → 0 < length (spell_request r)
spelling_filled r =
    let number = decimal (request_number r) in
    let parts = flat_map spell_value (request_values r) in
    omega (arith, length-append (number ++ codes "~") parts, length-append number (codes "~"))
