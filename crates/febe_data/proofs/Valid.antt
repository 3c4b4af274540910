-- Parts of a list that are all right, and the whole of it.
use Rattle.std.proofs.Common.{◌≡◌, ℕ, ◌+◌, ◌*◌, ◌<◌, ◌≤◌, ◌∙◌, List, [], ◌∷◌, ◌++◌, length, map, take, All, get_or, ap, sym, subst, arith}
use Rattle.std.specs.Prelude.{IsTrue, nat_le, ◌↔◌}
use Rattle.std.proofs.lemmas.Bool.{leb-true, le-leb}
use Rattle.std.proofs.lemmas.List.{take_all, map_more, length-map, get_or-map}
use Rattle.std.proofs.lemmas.List.Elements.{All-more, All-push}
use Rattle.std.proofs.lemmas.List.Sums.{sum_by_push}
use Rattle.febe_data.specs.declared.spec.Spec.{Spec}
use Rattle.febe_data.specs.Plain.{PlainSpec, plain_spec}
use Rattle.febe_data.specs.Validity.{IsList, IsSpec, IsSpecSet, spans_in_all}

-- where the first ones are right and the next one is
pub more : {X : Type 0} (P : X → Type 0) (xs : List X) (i : ℕ) (x : X) → i < length xs → x ≡ get_or xs i x → P x → All P (take i xs) → All P (take (i + 1) xs)
more P xs i x lt is right front = All-more P xs i x lt front (subst P is right)

-- where the first ones are all there are, only their number is left to test
pub whole : {X : Type 0} (P : X → Type 0) (xs : List X) (i : ℕ) → length xs ≤ i → All P (take i xs) → IsTrue (nat_le (length xs) 65536) ↔ IsList P xs
whole P xs i past front = (
  (λ few. record { few = leb-true (length xs) 65536 few; each = subst (All P) (take_all i xs past) front }),
  (λ list. le-leb (length xs) 65536 list.few),
)

-- a spec of a spec set is right
pub right_at : (specs : List Spec) (i : ℕ) (spec : Spec) → i < length specs → spec ≡ get_or specs i spec → IsSpecSet (map plain_spec specs) → IsSpec (plain_spec spec)
right_at specs i spec lt is set =
    let within : i < length (map plain_spec specs) = omega (arith, length-map specs plain_spec) in
    let there : get_or (map plain_spec specs) i (plain_spec spec) ≡ plain_spec spec = get_or-map plain_spec specs i spec (plain_spec spec) lt ∙ ap plain_spec (sym is) in
    subst IsSpec there (set.list.each i (plain_spec spec) within)

pub specs_more : (specs : List Spec) (i : ℕ) (spec : Spec) (spans n : ℕ) → i < length specs → spec ≡ get_or specs i spec → IsSpec (plain_spec spec) → n ≡ length spec.spans.items
    → All IsSpec (map plain_spec (take i specs)) → spans ≡ spans_in_all (map plain_spec (take i specs)) → spans ≤ 65536 * i
    → record { each : All IsSpec (map plain_spec (take (i + 1) specs)); spans_are : spans + n ≡ spans_in_all (map plain_spec (take (i + 1) specs)); bound : spans + n ≤ 65536 * (i + 1) }
specs_more specs i spec spans n lt is right counted each are bound =
    let grown : map plain_spec (take (i + 1) specs) ≡ map plain_spec (take i specs) ++ plain_spec spec ∷ [] = map_more plain_spec specs i spec lt ∙ ap (λ (s : Spec). map plain_spec (take i specs) ++ plain_spec s ∷ []) (sym is) in
    record {
      each = rw grown (All-push IsSpec (map plain_spec (take i specs)) (plain_spec spec) each right);
      spans_are = ap (λ (k : ℕ). k + n) are ∙ ap (λ (k : ℕ). spans_in_all (map plain_spec (take i specs)) + k) counted ∙ sym (ap spans_in_all grown ∙ sum_by_push (λ (s : PlainSpec). length s.spans) (map plain_spec (take i specs)) (plain_spec spec));
      bound = omega (arith, bound, counted, right.spans.few);
    }
