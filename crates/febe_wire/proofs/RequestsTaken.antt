-- Bytes from which a request is read begin with the spelling of that request.
use Rattle.std.proofs.Common.{◌≡◌, ℕ, ◌-◌, ◌<◌, ◌≤◌, Bool, true, false, List, [], ◌∷◌, ◌++◌, length, take, drop, All, Option, Some, None, refl, sym, ap, subst, ◌∙◌, append_assoc, arith}
use Rattle.std.specs.Prelude.{◌==◌, ◌||◌, if◌then◌else◌, codes, decimal, sum_by}
use Rattle.std.specs.List.{flat_map, AllByRecursion}
use Rattle.std.proofs.lemmas.Bool.{eqb-true}
use Rattle.std.proofs.lemmas.Option.{some_pair_parts, same_Some}
use Rattle.std.proofs.lemmas.List.{length-append, take_at, drop_at, take-take, length-take-le}
use Rattle.std.proofs.lemmas.List.Elements.{All-take, All-drop}
use Rattle.std.proofs.lemmas.List.Sums.{sum_by-cons}
use Rattle.tumbler.specs.declared.span.Span.{Span}
use Rattle.tumbler.specs.Places.{IsTumbler}
use Rattle.febe_data.specs.Access.{mode_number, rule_number}
use Rattle.febe_data.specs.Plain.{PlainSpec, PlainWant, PlainRequest, insert, span_set, copy, rearrange, retrieve, relate, create, delete, version, whole_span, quit, follow, find_documents, create_link, end_sets, count_links, find_links, next_links, set_account, opens, closes, publish}
use Rattle.febe_data.specs.FieldValues.{FieldValue, tumbler_value, number_value, text_value, span_value, spans_value, tumblers_value, spec_value, specs_value, mode_value, rule_value, items_value, diagonals_value, request_number, request_values, want_values}
use Rattle.febe_data.specs.Spelling.{zeros_of, spell_places, spell_number, spell_tumbler, spell_text, spell_span, spell_list, spell_spec, spell_value}
use Rattle.febe_data.specs.Validity.{IsShort, IsSpan, IsList, IsSpec, spans_in_all, IsFieldValue, IsRequest}
use Rattle.febe_fields.specs.Reading.{number_at, text_at, tumbler_at, mode_at, rule_at, list_at, span_at, spec_at}
use Rattle.febe_fields.proofs.FieldLaws.{bind_some, number_takes, text_takes, tumbler_takes}
use Rattle.febe_wire.specs.Grammar.{spell_request, IsSpelled}
use Rattle.febe_wire.specs.Reads.{IsRead}
use Rattle.febe_wire.specs.inside.Reading.{insert_at, copy_at, rearrange_at, delete_at, open_at, request_with_tumbler, with_tumbler_at, request_with_specs, with_specs_at, relate_at, create_link_at, follow_at, want_at, request_with_want, with_want_at, next_links_at, request_of, request_at}
use Rattle.febe_wire.proofs.RequestLaws.{one_part, two_parts, three_parts, four_parts, six_parts, IsWant}
use Rattle.febe_wire.proofs.RequestScans.{not_none}
use Rattle.febe_wire.proofs.PartsTaken.{ReadsOnly, step, mode_takes, rule_takes, tumblers_take, span_takes, spans_take, spec_takes, specs_take}

-- ---- what few bytes spell is right

-- bytes, no more of them than a set may have spans
record AreFew (bytes : List ℕ) : Type 0 where
  few : length bytes ≤ 65536
  small : All (λ b. b < 256) bytes

few_front : (a b : List ℕ) → AreFew (a ++ b) → AreFew a
few_front a b h = record {
  few = omega (arith, h.few, length-append a b);
  small = subst (All (λ x. x < 256)) (take_at a b (length a) refl) (All-take (λ x. x < 256) (length a) (a ++ b) h.small);
}

few_back : (a b : List ℕ) → AreFew (a ++ b) → AreFew b
few_back a b h = record {
  few = omega (arith, h.few, length-append a b);
  small = subst (All (λ x. x < 256)) (drop_at a b (length a) refl) (All-drop (λ x. x < 256) (length a) (a ++ b) h.small);
}

-- each item of a list has a byte
counted : {X : Type 0} (spell : X → List ℕ) (size : X → ℕ) → ((x : X) → size x ≤ length (spell x)) → (xs : List X) → sum_by size xs ≤ length (flat_map spell xs)
counted spell size each [] = omega arith
counted spell size each (x ∷ xs) = omega (arith, sum_by-cons size x xs, each x, counted spell size each xs, length-append (spell x) (flat_map spell xs))

span_has_byte : (span : Span) → 1 ≤ length (spell_span span)
span_has_byte span =
    let front = decimal (zeros_of span.start) ++ spell_places (drop (zeros_of span.start) span.start) in
    omega (arith, length-append (front ++ codes "~") (spell_tumbler span.width), length-append front (codes "~"))

spans_counted : (spans : List Span) → length spans ≤ length (flat_map spell_span spans)
spans_counted [] = omega arith
spans_counted (span ∷ spans) = omega (arith, span_has_byte span, spans_counted spans, length-append (spell_span span) (flat_map spell_span spans))

spec_counted : (spec : PlainSpec) → length spec.spans ≤ length (spell_spec spec)
spec_counted spec =
    omega (arith, spans_counted spec.spans, length-append (spell_tumbler spec.document) (spell_list spell_span spec.spans), length-append (spell_number (length spec.spans)) (flat_map spell_span spec.spans))

specs_counted : (specs : List PlainSpec) → spans_in_all specs ≤ length (spell_list spell_spec specs)
specs_counted specs = omega (arith, counted spell_spec (λ spec. length spec.spans) spec_counted specs, length-append (spell_number (length specs)) (flat_map spell_spec specs))

-- what reading tells of a value
abbrev IsReadValue : FieldValue → Type 0
IsReadValue (tumbler_value places) = IsTumbler places
IsReadValue (number_value n) = n < 4294967296
IsReadValue (text_value text) = IsShort text
IsReadValue (span_value span) = IsSpan span
IsReadValue (spans_value spans) = IsList IsSpan spans
IsReadValue (tumblers_value tumblers) = IsList IsTumbler tumblers
IsReadValue (spec_value spec) = IsSpec spec
IsReadValue (specs_value specs) = IsList IsSpec specs
IsReadValue (mode_value mode) = Unit {0}
IsReadValue (rule_value rule) = Unit {0}
IsReadValue (items_value items) = ⊥
IsReadValue (diagonals_value diagonals) = ⊥

value_right : (v : FieldValue) → AreFew (spell_value v) → IsReadValue v → IsFieldValue v
value_right (tumbler_value places) few h = h
value_right (number_value n) few h = h
value_right (text_value text) few h = record { short = h; bytes = (few_back (116 ∷ (decimal (length text) ++ 58 ∷ [])) text few).small }
value_right (span_value span) few h = h
value_right (spans_value spans) few h = h
value_right (tumblers_value tumblers) few h = h
value_right (spec_value spec) few h = h
value_right (specs_value specs) few h = record { list = h; few_spans = omega (arith, few.few, specs_counted specs) }
value_right (mode_value mode) few h = h
value_right (rule_value rule) few h = h
value_right (items_value items) few h = absurd h
value_right (diagonals_value diagonals) few h = absurd h

values_right : (vs : List FieldValue) → AreFew (flat_map spell_value vs) → AllByRecursion IsReadValue vs → AllByRecursion IsFieldValue vs
values_right [] few h = tt
values_right (v ∷ vs) few h = (value_right v (few_front (spell_value v) (flat_map spell_value vs) few) h.0, values_right vs (few_back (spell_value v) (flat_map spell_value vs) few) h.1)

-- ---- parts one behind the other

one_joined : (bytes a rest : List ℕ) → bytes ≡ a ++ rest → bytes ≡ (a ++ []) ++ rest
one_joined bytes a rest e = e ∙ sym (one_part a rest)

two_joined : (bytes a m b rest : List ℕ) → bytes ≡ a ++ m → m ≡ b ++ rest → bytes ≡ (a ++ (b ++ [])) ++ rest
two_joined bytes a m b rest e f = rw (e, f) (sym (two_parts a b rest))

three_joined : (bytes a m b n c rest : List ℕ) → bytes ≡ a ++ m → m ≡ b ++ n → n ≡ c ++ rest → bytes ≡ (a ++ (b ++ (c ++ []))) ++ rest
three_joined bytes a m b n c rest e f g = rw (e, f, g) (sym (three_parts a b c rest))

four_joined : (bytes a m b n c o d rest : List ℕ) → bytes ≡ a ++ m → m ≡ b ++ n → n ≡ c ++ o → o ≡ d ++ rest → bytes ≡ (a ++ (b ++ (c ++ (d ++ [])))) ++ rest
four_joined bytes a m b n c o d rest e f g h = rw (e, f, g, h) (sym (four_parts a b c d rest))

six_joined : (bytes a b c d m x n y rest : List ℕ) → bytes ≡ (a ++ (b ++ (c ++ (d ++ [])))) ++ m → m ≡ x ++ n → n ≡ y ++ rest → bytes ≡ (a ++ (b ++ (c ++ (d ++ (x ++ (y ++ [])))))) ++ rest
six_joined bytes a b c d m x n y rest e f g = rw (e, f, g) (four_parts a b c d (x ++ (y ++ rest)) ∙ sym (six_parts a b c d x y rest))

-- ---- requests, behind their numbers

-- the bytes spell the values of this request, which has this number, and then the rest
record IsTakenAs (n : ℕ) (bytes : List ℕ) (r : PlainRequest) (rest : List ℕ) : Type 0 where
  named : request_number r ≡ n
  spelled : bytes ≡ flat_map spell_value (request_values r) ++ rest
  right : AllByRecursion IsReadValue (request_values r)

-- every request of this number that this reader gives
abbrev Takes : ℕ → (List ℕ → Option (PlainRequest × List ℕ)) → Type 0
Takes n read = (bytes : List ℕ) (r : PlainRequest) (rest : List ℕ) → read bytes ≡ Some (r, rest) → IsTakenAs n bytes r rest

taken : (n : ℕ) (bytes : List ℕ) (x r : PlainRequest) (vs : List FieldValue) (mid rest : List ℕ) → ◌≡◌ {A = Option (PlainRequest × List ℕ)} (Some (x, mid)) (Some (r, rest)) → request_number x ≡ n → request_values x ≡ vs
    → bytes ≡ flat_map spell_value vs ++ mid → AllByRecursion IsReadValue vs → IsTakenAs n bytes r rest
taken n bytes x r vs mid rest e named values spelled right =
    let p = some_pair_parts x r mid rest e in
    let whole : IsTakenAs n bytes x mid = record {
      named = named;
      spelled = spelled ∙ ap (λ (ws : List FieldValue). flat_map spell_value ws ++ mid) (sym values);
      right = subst (AllByRecursion IsReadValue) (sym values) right;
    } in
    subst (λ (s : PlainRequest). IsTakenAs n bytes s rest) p.0 (subst (λ (ds : List ℕ). IsTakenAs n bytes x ds) p.1 whole)

insert_takes : Takes 0 insert_at
unfolding insert_at
insert_takes bytes r rest e =
    let a = step tumbler_at spell_tumbler IsTumbler tumbler_takes _ bytes (r, rest) e in
    let b = step tumbler_at spell_tumbler IsTumbler tumbler_takes _ a.rest (r, rest) a.goes in
    let c = step text_at spell_text IsShort text_takes _ b.rest (r, rest) b.goes in
    taken 0 bytes (insert a.value b.value c.value) r _ c.rest rest c.goes refl refl (three_joined bytes _ a.rest _ b.rest (spell_text c.value) c.rest a.spelled b.spelled c.spelled) (a.right, (b.right, (c.right, tt)))

copy_takes : Takes 2 copy_at
unfolding copy_at
copy_takes bytes r rest e =
    let a = step tumbler_at spell_tumbler IsTumbler tumbler_takes _ bytes (r, rest) e in
    let b = step tumbler_at spell_tumbler IsTumbler tumbler_takes _ a.rest (r, rest) a.goes in
    let c = step (list_at spec_at) (spell_list spell_spec) (IsList IsSpec) specs_take _ b.rest (r, rest) b.goes in
    taken 2 bytes (copy a.value b.value c.value) r _ c.rest rest c.goes refl refl (three_joined bytes _ a.rest _ b.rest _ c.rest a.spelled b.spelled c.spelled) (a.right, (b.right, (c.right, tt)))

rearrange_takes : Takes 3 rearrange_at
unfolding rearrange_at
rearrange_takes bytes r rest e =
    let a = step tumbler_at spell_tumbler IsTumbler tumbler_takes _ bytes (r, rest) e in
    let b = step (list_at tumbler_at) (spell_list spell_tumbler) (IsList IsTumbler) tumblers_take _ a.rest (r, rest) a.goes in
    taken 3 bytes (rearrange a.value b.value) r _ b.rest rest b.goes refl refl (two_joined bytes _ a.rest _ b.rest a.spelled b.spelled) (a.right, (b.right, tt))

delete_takes : Takes 12 delete_at
unfolding delete_at
delete_takes bytes r rest e =
    let a = step tumbler_at spell_tumbler IsTumbler tumbler_takes _ bytes (r, rest) e in
    let b = step span_at spell_span IsSpan span_takes _ a.rest (r, rest) a.goes in
    taken 12 bytes (delete a.value b.value) r _ b.rest rest b.goes refl refl (two_joined bytes _ a.rest _ b.rest a.spelled b.spelled) (a.right, (b.right, tt))

open_takes : Takes 35 open_at
unfolding open_at
open_takes bytes r rest e =
    let a = step tumbler_at spell_tumbler IsTumbler tumbler_takes _ bytes (r, rest) e in
    let b = step mode_at (λ mode. spell_number (mode_number mode)) (λ mode. Unit {0}) mode_takes _ a.rest (r, rest) a.goes in
    let c = step rule_at (λ rule. spell_number (rule_number rule)) (λ rule. Unit {0}) rule_takes _ b.rest (r, rest) b.goes in
    taken 35 bytes (opens a.value b.value c.value) r _ c.rest rest c.goes refl refl (three_joined bytes _ a.rest _ b.rest _ c.rest a.spelled b.spelled c.spelled) (a.right, (tt, (tt, tt)))

relate_takes : Takes 10 relate_at
unfolding relate_at
relate_takes bytes r rest e =
    let a = step spec_at spell_spec IsSpec spec_takes _ bytes (r, rest) e in
    let b = step spec_at spell_spec IsSpec spec_takes _ a.rest (r, rest) a.goes in
    taken 10 bytes (relate a.value b.value) r _ b.rest rest b.goes refl refl (two_joined bytes _ a.rest _ b.rest a.spelled b.spelled) (a.right, (b.right, tt))

create_link_takes : Takes 27 create_link_at
unfolding create_link_at
create_link_takes bytes r rest e =
    let a = step tumbler_at spell_tumbler IsTumbler tumbler_takes _ bytes (r, rest) e in
    let b = step (list_at spec_at) (spell_list spell_spec) (IsList IsSpec) specs_take _ a.rest (r, rest) a.goes in
    let c = step (list_at spec_at) (spell_list spell_spec) (IsList IsSpec) specs_take _ b.rest (r, rest) b.goes in
    let d = step (list_at spec_at) (spell_list spell_spec) (IsList IsSpec) specs_take _ c.rest (r, rest) c.goes in
    taken 27 bytes (create_link a.value b.value c.value d.value) r _ d.rest rest d.goes refl refl
    (four_joined bytes _ a.rest _ b.rest _ c.rest _ d.rest a.spelled b.spelled c.spelled d.spelled) (a.right, (b.right, (c.right, (d.right, tt))))

follow_takes : Takes 18 follow_at
unfolding follow_at
follow_takes bytes r rest e =
    let a = step tumbler_at spell_tumbler IsTumbler tumbler_takes _ bytes (r, rest) e in
    let b = step number_at spell_number (λ n. n < 4294967296) number_takes _ a.rest (r, rest) a.goes in
    taken 18 bytes (follow a.value b.value) r _ b.rest rest b.goes refl refl (two_joined bytes _ a.rest _ b.rest a.spelled b.spelled) (a.right, (b.right, tt))

abbrev want_spelled : PlainWant → List ℕ
want_spelled want = flat_map spell_value (want_values want [])

want_takes : ReadsOnly want_at want_spelled IsWant
unfolding want_at
want_takes bytes want rest e =
    let a = step (list_at span_at) (spell_list spell_span) (IsList IsSpan) spans_take _ bytes (want, rest) e in
    let b = step (list_at spec_at) (spell_list spell_spec) (IsList IsSpec) specs_take _ a.rest (want, rest) a.goes in
    let c = step (list_at spec_at) (spell_list spell_spec) (IsList IsSpec) specs_take _ b.rest (want, rest) b.goes in
    let d = step (list_at spec_at) (spell_list spell_spec) (IsList IsSpec) specs_take _ c.rest (want, rest) c.goes in
    let made : PlainWant = record { homes = a.value; from = b.value; to = c.value; three = d.value } in
    let p = some_pair_parts made want d.rest rest d.goes in
    let whole : bytes ≡ want_spelled made ++ d.rest = four_joined bytes _ a.rest _ b.rest _ c.rest _ d.rest a.spelled b.spelled c.spelled d.spelled in
    let right : IsWant made = record { homes = a.right; from = b.right; to = c.right; three = d.right } in
    subst (λ (w : PlainWant). (bytes ≡ want_spelled w ++ rest) × IsWant w) p.0 (whole ∙ ap (λ (ds : List ℕ). want_spelled made ++ ds) p.1, right)

next_links_takes : Takes 31 next_links_at
unfolding next_links_at
next_links_takes bytes r rest e =
    let a = step want_at want_spelled IsWant want_takes _ bytes (r, rest) e in
    let b = step tumbler_at spell_tumbler IsTumbler tumbler_takes _ a.rest (r, rest) a.goes in
    let c = step number_at spell_number (λ n. n < 4294967296) number_takes _ b.rest (r, rest) b.goes in
    let w = a.right in
    taken 31 bytes (next_links a.value b.value c.value) r _ c.rest rest c.goes refl refl (six_joined bytes (spell_list spell_span a.value.homes) (spell_list spell_spec a.value.from) (spell_list spell_spec a.value.to) (spell_list spell_spec a.value.three) a.rest _ b.rest _ c.rest a.spelled b.spelled c.spelled) (w.homes, (w.from, (w.to, (w.three, (b.right, (c.right, tt))))))

-- ---- requests that give one thing alone

by_test : {A : Type 0} (b : Bool) (x y : Option A) (z : A) (P : Type 0) → (if b then x else y) ≡ Some z → (b ≡ true → x ≡ Some z → P) → (y ≡ Some z → P) → P
by_test true x y z P e passes fails = passes refl e
by_test false x y z P e passes fails = fails e

-- a request has this number and these values
record Gives (n : ℕ) (vs : List FieldValue) (r : PlainRequest) : Type 0 where
  number : request_number r ≡ n
  values : request_values r ≡ vs

gives : (n k : ℕ) (vs : List FieldValue) (x r : PlainRequest) → request_number x ≡ k → request_values x ≡ vs → (n == k) ≡ true → ◌≡◌ {A = Option PlainRequest} (Some x) (Some r) → Gives n vs r
gives n k vs x r number values test e = subst (Gives n vs) (same_Some x r e) record { number = number ∙ sym (eqb-true n k test); values = values }

tumbler_named : (n : ℕ) (places : List ℕ) (r : PlainRequest) → request_with_tumbler n places ≡ Some r → Gives n (tumbler_value places ∷ []) r
tumbler_named n places r e =
    let P = Gives n (tumbler_value places ∷ []) r in
    by_test (n == 1) (Some (span_set places)) _ r P e (gives n 1 _ (span_set places) r refl refl) (λ e.
    by_test (n == 13) (Some (version places)) _ r P e (gives n 13 _ (version places) r refl refl) (λ e.
    by_test (n == 14) (Some (whole_span places)) _ r P e (gives n 14 _ (whole_span places) r refl refl) (λ e.
    by_test (n == 34) (Some (set_account places)) _ r P e (gives n 34 _ (set_account places) r refl refl) (λ e.
    by_test (n == 36) (Some (closes places)) _ r P e (gives n 36 _ (closes places) r refl refl) (λ e.
    by_test (n == 40) (Some (publish places)) None r P e (gives n 40 _ (publish places) r refl refl) (λ e. absurd (cc e)))))))

with_tumbler_takes : (n : ℕ) → Takes n (with_tumbler_at n)
unfolding with_tumbler_at
with_tumbler_takes n bytes r rest e =
    let a = step tumbler_at spell_tumbler IsTumbler tumbler_takes _ bytes (r, rest) e in
    let b = bind_some (request_with_tumbler n a.value) (λ request. Some (request, a.rest)) (r, rest) a.goes in
    let g = tumbler_named n a.value b.0 b.1 in
    taken n bytes b.0 r _ a.rest rest b.2 g.number g.values (one_joined bytes _ a.rest a.spelled) (a.right, tt)

specs_named : (n : ℕ) (specs : List PlainSpec) (r : PlainRequest) → request_with_specs n specs ≡ Some r → Gives n (specs_value specs ∷ []) r
specs_named n specs r e =
    let P = Gives n (specs_value specs ∷ []) r in
    by_test (n == 5) (Some (retrieve specs)) _ r P e (gives n 5 _ (retrieve specs) r refl refl) (λ e.
    by_test (n == 22) (Some (find_documents specs)) _ r P e (gives n 22 _ (find_documents specs) r refl refl) (λ e.
    by_test (n == 28) (Some (end_sets specs)) None r P e (gives n 28 _ (end_sets specs) r refl refl) (λ e. absurd (cc e))))

with_specs_takes : (n : ℕ) → Takes n (with_specs_at n)
unfolding with_specs_at
with_specs_takes n bytes r rest e =
    let a = step (list_at spec_at) (spell_list spell_spec) (IsList IsSpec) specs_take _ bytes (r, rest) e in
    let b = bind_some (request_with_specs n a.value) (λ request. Some (request, a.rest)) (r, rest) a.goes in
    let g = specs_named n a.value b.0 b.1 in
    taken n bytes b.0 r _ a.rest rest b.2 g.number g.values (one_joined bytes _ a.rest a.spelled) (a.right, tt)

want_named : (n : ℕ) (want : PlainWant) (r : PlainRequest) → request_with_want n want ≡ Some r → Gives n (want_values want []) r
want_named n want r e =
    let P = Gives n (want_values want []) r in
    by_test (n == 29) (Some (count_links want)) _ r P e (gives n 29 _ (count_links want) r refl refl) (λ e.
    by_test (n == 30) (Some (find_links want)) None r P e (gives n 30 _ (find_links want) r refl refl) (λ e. absurd (cc e)))

with_want_takes : (n : ℕ) → Takes n (with_want_at n)
unfolding with_want_at
with_want_takes n bytes r rest e =
    let a = step want_at want_spelled IsWant want_takes _ bytes (r, rest) e in
    let b = bind_some (request_with_want n a.value) (λ request. Some (request, a.rest)) (r, rest) a.goes in
    let g = want_named n a.value b.0 b.1 in
    let w = a.right in
    taken n bytes b.0 r _ a.rest rest b.2 g.number g.values a.spelled (w.homes, (w.from, (w.to, (w.three, tt))))

-- ---- all requests

renamed : (n k : ℕ) (bytes : List ℕ) (r : PlainRequest) (rest : List ℕ) → IsTakenAs k bytes r rest → (n == k) ≡ true → IsTakenAs n bytes r rest
renamed n k bytes r rest h test = subst (λ (m : ℕ). IsTakenAs m bytes r rest) (sym (eqb-true n k test)) h

parts_taken : (n : ℕ) → Takes n (request_of n)
unfolding request_of
parts_taken n bytes r rest e =
    let P = IsTakenAs n bytes r rest in
    let z : PlainRequest × List ℕ = (r, rest) in
    by_test (n == 0) (insert_at bytes) _ z P e (λ t e. renamed n 0 bytes r rest (insert_takes bytes r rest e) t) (λ e.
    by_test (n == 2) (copy_at bytes) _ z P e (λ t e. renamed n 2 bytes r rest (copy_takes bytes r rest e) t) (λ e.
    by_test (n == 3) (rearrange_at bytes) _ z P e (λ t e. renamed n 3 bytes r rest (rearrange_takes bytes r rest e) t) (λ e.
    by_test (n == 10) (relate_at bytes) _ z P e (λ t e. renamed n 10 bytes r rest (relate_takes bytes r rest e) t) (λ e.
    by_test (n == 11) (Some (create, bytes)) _ z P e (λ t e. renamed n 11 bytes r rest (taken 11 bytes create r [] bytes rest e refl refl refl tt) t) (λ e.
    by_test (n == 12) (delete_at bytes) _ z P e (λ t e. renamed n 12 bytes r rest (delete_takes bytes r rest e) t) (λ e.
    by_test (n == 16) (Some (quit, bytes)) _ z P e (λ t e. renamed n 16 bytes r rest (taken 16 bytes quit r [] bytes rest e refl refl refl tt) t) (λ e.
    by_test (n == 18) (follow_at bytes) _ z P e (λ t e. renamed n 18 bytes r rest (follow_takes bytes r rest e) t) (λ e.
    by_test (n == 27) (create_link_at bytes) _ z P e (λ t e. renamed n 27 bytes r rest (create_link_takes bytes r rest e) t) (λ e.
    by_test (n == 31) (next_links_at bytes) _ z P e (λ t e. renamed n 31 bytes r rest (next_links_takes bytes r rest e) t) (λ e.
    by_test (n == 35) (open_at bytes) _ z P e (λ t e. renamed n 35 bytes r rest (open_takes bytes r rest e) t) (λ e.
    by_test (n == 5 || n == 22 || n == 28) (with_specs_at n bytes) _ z P e (λ t e. with_specs_takes n bytes r rest e) (λ e.
    by_test (n == 29 || n == 30) (with_want_at n bytes) (with_tumbler_at n bytes) z P e (λ t e. with_want_takes n bytes r rest e) (λ e. with_tumbler_takes n bytes r rest e)))))))))))))

request_joined : (bytes : List ℕ) (n : ℕ) (mid : List ℕ) (number : ℕ) (parts rest : List ℕ) → bytes ≡ spell_number n ++ mid → number ≡ n → mid ≡ parts ++ rest → bytes ≡ (spell_number number ++ parts) ++ rest
request_joined bytes n mid number parts rest e f g = e ∙ rw (f, g) (sym (append_assoc (spell_number n) parts rest))

used_is : (bytes rest : List ℕ) (r : PlainRequest) → bytes ≡ spell_request r ++ rest → IsRequest r → IsRead bytes r (length bytes - length rest)
used_is bytes rest r whole valid =
    let used : length (spell_request r) ≡ length bytes - length rest = omega (arith, ap length whole, length-append (spell_request r) rest) in
    record {
      within = omega arith;
      spells = record { valid = valid; spelled = ap (take (length bytes - length rest)) whole ∙ take_at (spell_request r) rest (length bytes - length rest) used };
    }

-- the bytes spell a request, and then the rest
record IsInFront (bytes : List ℕ) (r : PlainRequest) (rest : List ℕ) : Type 0 where
  whole : bytes ≡ spell_request r ++ rest
  right : AllByRecursion IsReadValue (request_values r)

in_front : (bytes : List ℕ) (r : PlainRequest) (rest : List ℕ) → request_at bytes ≡ Some (r, rest) → IsInFront bytes r rest
unfolding request_at
in_front bytes r rest e =
    let a = step number_at spell_number (λ n. n < 4294967296) number_takes (λ n. request_of n.0 n.1) bytes (r, rest) e in
    let t = parts_taken a.value a.rest r rest a.goes in
    record { whole = request_joined bytes a.value a.rest (request_number r) (flat_map spell_value (request_values r)) rest a.spelled t.named t.spelled; right = t.right }

-- few bytes from which a request is read begin with its spelling
request_taken : (bytes : List ℕ) (r : PlainRequest) (rest : List ℕ) → AreFew bytes → request_at bytes ≡ Some (r, rest) → IsRead bytes r (length bytes - length rest)
request_taken bytes r rest few e =
    let f = in_front bytes r rest e in
    let parts = flat_map spell_value (request_values r) in
    let few_parts : AreFew parts = few_back (spell_number (request_number r)) parts (few_front (spell_request r) rest (subst AreFew f.whole few)) in
    used_is bytes rest r f.whole (values_right (request_values r) few_parts f.right)

-- ---- the first of the bytes

few_first : (bytes : List ℕ) (m : ℕ) → m ≤ length bytes → m ≤ 65536 → All (λ b. b < 256) bytes → AreFew (take m bytes)
few_first bytes m within few small = record { few = omega (arith, length-take-le m bytes within, few); small = All-take (λ b. b < 256) m bytes small }

-- what is left is no longer
pub rest_within : (bytes : List ℕ) (m : ℕ) (r : PlainRequest) (rest : List ℕ) → m ≤ length bytes → request_at (take m bytes) ≡ Some (r, rest) → length rest ≤ m
rest_within bytes m r rest within e =
    let f = in_front (take m bytes) r rest e in
    omega (arith, length-take-le m bytes within, ap length f.whole, length-append (spell_request r) rest)

-- a request that is read from the first bytes is spelled by as many as were used
pub first_taken : (bytes : List ℕ) (m : ℕ) (r : PlainRequest) (rest : List ℕ) → m ≤ length bytes → m ≤ 65536 → All (λ b. b < 256) bytes → request_at (take m bytes) ≡ Some (r, rest) → IsRead bytes r (m - length rest)
first_taken bytes m r rest within few small e =
    let len = length-take-le m bytes within in
    let h = request_taken (take m bytes) r rest (few_first bytes m within few small) e in
    let used : length (take m bytes) - length rest ≡ m - length rest = omega (arith, len) in
    let same : take (m - length rest) (take m bytes) ≡ take (m - length rest) bytes = take-take (m - length rest) m bytes (omega arith) in
    record {
      within = omega (arith, within);
      spells = record { valid = h.spells.valid; spelled = sym same ∙ ap (λ (n : ℕ). take n (take m bytes)) (sym used) ∙ h.spells.spelled };
    }

-- where none is read from them, none of their fronts is spelled
pub first_not_taken : (bytes : List ℕ) (m n : ℕ) → m ≤ length bytes → n ≤ m → request_at (take m bytes) ≡ None → IsSpelled (take n bytes) → ⊥
first_not_taken bytes m n within le e spelled =
    not_none (take m bytes) n (record { within = omega (arith, le, length-take-le m bytes within); prefix = subst IsSpelled (sym (take-take n m bytes le)) spelled }) e
