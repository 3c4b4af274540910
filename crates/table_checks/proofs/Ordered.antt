-- Rows whose neighbours stand in order stand in order all.
use Rattle.std.proofs.Common.{◌≡◌, ◌∙◌, ℕ, ◌+◌, ◌<◌, ◌≤◌, List, [], ◌∷◌, length, map, get_or, refl, sym, ap, nat_cmp, arith, inl, inr}
use Rattle.std.proofs.Math.ListN.{get_or-map}
use Rattle.std.proofs.lemmas.Bool.{cases_lt}
use Rattle.std.proofs.lemmas.List.{length-map}
use Rattle.std.proofs.lemmas.Map.Keys.{Less-from_sorted, sorted_from_all_adjacent}
use Rattle.std.specs.Cmp.Lexicographic.{slice_cmp, nat_list_cmp_total}
use Rattle.tumbler.specs.Places.{IsBefore}
use Rattle.tumbler.proofs.InOrder.{none_ascend}
use Rattle.tumbler.proofs.RowsInOrder.{same_item}
use Rattle.page_tables.specs.declared.tables.TableLink.{TableLink}
use Rattle.page_tables.specs.Plain.{plain_link}
use Rattle.table_checks.specs.TableRows.{ids_of}
use Rattle.table_checks.specs.Sound.{Ascend}

module _ {X : Type 0} (address : X → List ℕ) where
  -- each of the first k rows comes before the next one
  abbrev pub Adjacent : List X → ℕ → Type 0
  Adjacent xs k = (j : ℕ) (d : X) → j + 1 < k → IsBefore (address (get_or xs j d)) (address (get_or xs (j + 1) d))

  pub none_adjacent : (xs : List X) → Adjacent xs 1
  none_adjacent xs j d lt = absurd (omega (arith, lt))

  item_is : (xs : List X) (k at : ℕ) (x d : X) → k ≡ at → at < length xs → x ≡ get_or xs at x → address (get_or xs k d) ≡ address x
  item_is xs k at x d same lt is = ap address (ap (λ (n : ℕ). get_or xs n d) same ∙ same_item xs at d x lt ∙ sym is)

  pub adjacent_more : (xs : List X) (k at : ℕ) (x y : X) → at + 1 ≡ k → k < length xs → x ≡ get_or xs at x → y ≡ get_or xs k y → IsBefore (address x) (address y) → Adjacent xs k → Adjacent xs (k + 1)
  adjacent_more xs k at x y next lt is_x is_y less before j d within = elim (cases_lt (j + 1) k) [
    | inl below ↦ before j d below
    | inr above ↦
        let same : j ≡ at = omega (arith, above, within, next) in
        let there : j + 1 ≡ k = omega (arith, above, within) in
        let inside : at < length xs = omega (arith, next, lt) in
        let left : address (get_or xs j d) ≡ address x = item_is xs j at x d same inside is_x in
        let right : address (get_or xs (j + 1) d) ≡ address y = item_is xs (j + 1) k y d there lt is_y in
        (λ i. slice_cmp nat_cmp (left i) (right i)) ∙ less
  ]

  pub ascends_whole : (xs : List X) (k : ℕ) → length xs ≤ k → Adjacent xs k → Ascend (map address xs)
  ascends_whole [] k past adjacent = none_ascend (slice_cmp nat_cmp)
  ascends_whole (x ∷ xs) k past adjacent =
      sorted_from_all_adjacent nat_list_cmp_total (map address (x ∷ xs)) (address x)
      (λ j lt.
      let within : j + 1 < k = omega (arith, lt, past, length-map (x ∷ xs) address) in
      let left : get_or (map address (x ∷ xs)) j (address x) ≡ address (get_or (x ∷ xs) j x) = get_or-map address (x ∷ xs) j x in
      let right : get_or (map address (x ∷ xs)) (j + 1) (address x) ≡ address (get_or (x ∷ xs) (j + 1) x) = get_or-map address (x ∷ xs) (j + 1) x in
      (λ i. slice_cmp nat_cmp (left i) (right i)) ∙ adjacent j x within)

  pub not_ascending : (xs : List X) (k at : ℕ) (x y : X) → at + 1 ≡ k → k < length xs → x ≡ get_or xs at x → y ≡ get_or xs k y → (IsBefore (address x) (address y) → ⊥) → Ascend (map address xs) → ⊥
  not_ascending xs k at x y next lt is_x is_y not ascends =
      let inside : at < length xs = omega (arith, next, lt) in
      let left : address x ≡ get_or (map address xs) at (address x) = sym (get_or-map address xs at x ∙ ap address (sym is_x)) in
      let right : address y ≡ get_or (map address xs) k (address x) = sym (get_or-map address xs k x ∙ item_is xs k k y x refl lt is_y) in
      not ((λ i. slice_cmp nat_cmp (left i) (right i)) ∙ Less-from_sorted (slice_cmp nat_cmp) (map address xs) at k (address x) ascends (omega (arith, next)) (omega (arith, lt, length-map xs address)))

-- ids as they are seen
pub ids_seen : (links : List TableLink) → ids_of (map plain_link links) ≡ map (λ (link : TableLink). link.id) links
ids_seen [] = refl
ids_seen (link ∷ links) = ap (λ (ids : List (List ℕ)). link.id ∷ ids) (ids_seen links)
