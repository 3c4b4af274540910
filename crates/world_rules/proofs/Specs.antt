-- Tests and sums over plain specs are those over the specs of the code.
use Rattle.std.proofs.Common.{◌≡◌, ℕ, ◌+◌, ◌||◌, Bool, List, [], ◌∷◌, map, refl, ap}
use Rattle.std.specs.List.{list_any, sum_by, fold}

pub list_any-map : {X Y : Type 0} (f : X → Y) (p : Y → Bool) (xs : List X) → list_any p (map f xs) ≡ list_any (λ x. p (f x)) xs
list_any-map f p [] = refl
list_any-map f p (x ∷ xs) = ap (λ (b : Bool). p (f x) || b) (list_any-map f p xs)

fold-map : {X Y : Type 0} (f : X → Y) (m : Y → ℕ) (n : ℕ) (xs : List X) → fold (λ a y. a + m y) n (map f xs) ≡ fold (λ a x. a + m (f x)) n xs
fold-map f m n [] = refl
fold-map f m n (x ∷ xs) = fold-map f m (n + m (f x)) xs

pub sum_by-map : {X Y : Type 0} (f : X → Y) (m : Y → ℕ) (xs : List X) → sum_by m (map f xs) ≡ sum_by (λ x. m (f x)) xs
sum_by-map f m xs = fold-map f m 0 xs

pub ruleset of_specs = (list_any-map, sum_by-map)
