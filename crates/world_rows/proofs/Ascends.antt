-- What ascends is settled by which addresses there are, in whatever order they come.
use Rattle.std.proofs.Common.{◌≡◌, ℕ, Bool, true, false, ◌||◌, ◌&&◌, cond, List, [], ◌∷◌, map, refl, ap, ◌∙◌, sym, IsPermutation}
use Rattle.std.specs.List.{list_any, filter}
use Rattle.std.specs.Ordering.{nat_cmp}
use Rattle.std.specs.Cmp.Lexicographic.{slice_cmp}
use Rattle.std.specs.BTreeMap.{is_at}
use Rattle.std.proofs.lemmas.Cmp.{nat_list_cmp_total}
use Rattle.std.proofs.lemmas.List.Sorted.{list_any-IsPermutation}
use Rattle.tumbler.proofs.Order.{same_if_tied}
use Rattle.tumbler.proofs.InOrder.{same_keys}
use Rattle.world_rules.specs.World.{ascending}

abbrev is : List ℕ → List ℕ → Bool
is q d = is_at (slice_cmp nat_cmp q) d

pub same_ascending : (xs ys : List (List ℕ)) → ((q : List ℕ) → list_any (is q) xs ≡ list_any (is q) ys) → ascending xs ≡ ascending ys
same_ascending xs ys same = same_keys (slice_cmp nat_cmp) same_if_tied nat_list_cmp_total xs ys same

any_left : (f p : List ℕ → Bool) (xs : List (List ℕ)) → list_any f (filter p xs) ≡ list_any (λ x. p x && f x) xs
any_left f p [] = refl
any_left f p (x ∷ xs) = by_test (p x) (any_left f p xs)
  where
    by_test : (b : Bool) → list_any f (filter p xs) ≡ list_any (λ x. p x && f x) xs → list_any f (cond b (x ∷ filter p xs) (filter p xs)) ≡ ((b && f x) || list_any (λ x. p x && f x) xs)
    by_test true rest = ap (λ (b : Bool). f x || b) rest
    by_test false rest = rest

pub moved_ascending : (p : List ℕ → Bool) (xs ys : List (List ℕ)) → IsPermutation xs ys → ascending (filter p xs) ≡ ascending (filter p ys)
moved_ascending p xs ys moved =
    same_ascending (filter p xs) (filter p ys)
    (λ q. any_left (is q) p xs ∙ list_any-IsPermutation (λ x. p x && is q x) xs ys moved ∙ sym (any_left (is q) p ys))

-- the addresses of what is left of other things
module _ {X : Type 0} (address : X → List ℕ) (p : X → Bool) where
  any_of_left : (f : List ℕ → Bool) (xs : List X) → list_any f (map address (filter p xs)) ≡ list_any (λ x. p x && f (address x)) xs
  any_of_left f [] = refl
  any_of_left f (x ∷ xs) = by_test (p x) (any_of_left f xs)
    where
      by_test : (b : Bool) → list_any f (map address (filter p xs)) ≡ list_any (λ x. p x && f (address x)) xs
          → list_any f (map address (cond b (x ∷ filter p xs) (filter p xs))) ≡ ((b && f (address x)) || list_any (λ x. p x && f (address x)) xs)
      by_test true rest = ap (λ (b : Bool). f (address x) || b) rest
      by_test false rest = rest

  pub moved_addresses : (xs ys : List X) → IsPermutation xs ys → ascending (map address (filter p xs)) ≡ ascending (map address (filter p ys))
  moved_addresses xs ys moved =
      same_ascending (map address (filter p xs)) (map address (filter p ys))
      (λ q. any_of_left (is q) xs ∙ list_any-IsPermutation (λ x. p x && is q (address x)) xs ys moved ∙ sym (any_of_left (is q) ys))
