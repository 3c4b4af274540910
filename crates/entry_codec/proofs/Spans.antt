-- What holds of each spec of a list, and how many spans they have from one on.
use Rattle.std.proofs.Common.{◌≡◌, ℕ, ◌+◌, ◌-◌, ◌<◌, ◌≤◌, ◌∙◌, Bool, true, false, List, ◌∷◌, length, map, drop, get_or, All, ap, sym, arith}
use Rattle.std.specs.Prelude.{nat_lt}
use Rattle.std.proofs.lemmas.Bool.{lt-ltb, le-ltb}
use Rattle.std.proofs.lemmas.Bool.Decides.{nat_tests}
use Rattle.std.proofs.lemmas.List.{drop_more, drop_all, get_or-map, length-map}
use Rattle.std.proofs.lemmas.List.Sums.{sum_by-cons}
use Rattle.febe_data.specs.declared.spec.Spec.{Spec}
use Rattle.febe_data.specs.Plain.{PlainSpec, plain_spec, plain_specs}
use Rattle.febe_data.specs.Validity.{spans_in_all}

-- what holds of the plain values holds of what they are taken from
pub each_plain : {X Y : Type 0} (plain : X → Y) (P : Y → Type 0) (xs : List X) → All P (map plain xs) → All (λ x. P (plain x)) xs
each_plain plain P xs h i d lt =
    rw (← get_or-map plain xs i d (plain d) lt) (h i (plain d) (rw length-map lt))

spans_from : (specs : List Spec) (i : ℕ) (spec : Spec) → i < length specs → spec ≡ get_or specs i spec
    → spans_in_all (plain_specs (drop i specs)) ≡ length spec.spans.items + spans_in_all (plain_specs (drop (i + 1) specs))
spans_from specs i spec lt is =
    ap (λ (rest : List Spec). spans_in_all (plain_specs rest)) (drop_more specs i spec lt ∙ ap (λ (s : Spec). s ∷ drop (i + 1) specs) (sym is))
    ∙ sum_by-cons (λ (s : PlainSpec). length s.spans) (plain_spec spec) (plain_specs (drop (i + 1) specs))

pub too_many : (specs : List Spec) (i : ℕ) (spec : Spec) (room : ℕ) (total : Bool) → i < length specs → spec ≡ get_or specs i spec → room < length spec.spans.items
    → nat_lt room (spans_in_all (plain_specs (drop i specs))) ≡ total → true ≡ total
too_many specs i spec room total lt is over so_far =
    let more : room < spans_in_all (plain_specs (drop i specs)) = omega (arith, spans_from specs i spec lt is) in
    sym (lt-ltb room (spans_in_all (plain_specs (drop i specs))) more) ∙ so_far

less : (room n rest : ℕ) → n ≤ room → nat_lt (room - n) rest ≡ nat_lt room (n + rest)
less room n rest le = grind (arith, nat_tests)

pub room_left : (specs : List Spec) (i : ℕ) (spec : Spec) (room n : ℕ) (total : Bool) → i < length specs → spec ≡ get_or specs i spec → n ≡ length spec.spans.items → n ≤ room
    → nat_lt room (spans_in_all (plain_specs (drop i specs))) ≡ total → nat_lt (room - n) (spans_in_all (plain_specs (drop (i + 1) specs))) ≡ total
room_left specs i spec room n total lt is counted within so_far =
    let rest : ℕ = spans_in_all (plain_specs (drop (i + 1) specs)) in
    less room n rest within ∙ ap (λ (k : ℕ). nat_lt room (k + rest)) counted ∙ ap (nat_lt room) (sym (spans_from specs i spec lt is)) ∙ so_far

pub none_left : (specs : List Spec) (i : ℕ) (room : ℕ) (total : Bool) → length specs ≤ i → nat_lt room (spans_in_all (plain_specs (drop i specs))) ≡ total → false ≡ total
none_left specs i room total past so_far =
    let none : nat_lt room (spans_in_all (plain_specs (drop i specs))) ≡ false = ap (λ (rest : List Spec). nat_lt room (spans_in_all (plain_specs rest))) (drop_all i specs past) ∙ le-ltb room 0 (omega arith) in
    sym none ∙ so_far
