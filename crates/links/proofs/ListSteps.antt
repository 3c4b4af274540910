-- Loops that stop at a limit.
use Rattle.std.proofs.Common.{◌≡◌, ℕ, zero, suc, ◌+◌, ◌<◌, ◌≤◌, List, [], ◌∷◌, ◌++◌, length, take, drop, get_or, map, refl, sym, ap, ◌∙◌, subst, arith, append-nil, take-append-drop}
use Rattle.std.specs.List.{flat_map}
use Rattle.std.proofs.lemmas.List.{take_more, take_all}
use Rattle.std.proofs.lemmas.Grind.{flat_map-append}

take_none : {X : Type 0} (n : ℕ) → take {0} {A = X} n [] ≡ []
take_none zero = refl
take_none (suc n) = refl

short_taken : {X : Type 0} (limit : ℕ) (zs : List X) → 0 < limit → length zs ≤ 1 → zs ≡ take limit zs
short_taken zero zs some short = absurd (omega (arith, some))
short_taken (suc n) [] some short = refl
short_taken (suc n) (z ∷ []) some short = ap (λ xs. z ∷ xs) (sym (take_none n))
short_taken (suc n) (z ∷ y ∷ zs) some short = absurd (omega (arith, short))

-- with room left, one more is taken
pub more_taken : {X : Type 0} (limit : ℕ) (ys zs : List X) → length (take limit ys) < limit → length zs ≤ 1 → take limit ys ++ zs ≡ take limit (ys ++ zs)
more_taken zero ys zs room short = absurd (omega (arith, room))
more_taken (suc n) [] zs room short = short_taken (suc n) zs (omega arith) short
more_taken (suc n) (y ∷ ys) zs room short = ap (λ xs. y ∷ xs) (more_taken n ys zs (omega (arith, room)) short)

-- with none left, no more is taken
pub full_taken : {X : Type 0} (limit : ℕ) (ys zs : List X) → limit ≤ length (take limit ys) → take limit ys ≡ take limit (ys ++ zs)
full_taken zero ys zs full = refl
full_taken (suc n) [] zs full = absurd (omega (arith, full))
full_taken (suc n) (y ∷ ys) zs full = ap (λ xs. y ∷ xs) (full_taken n ys zs (omega (arith, full)))

module _ {X Y : Type 0} (f : X → List Y) (short : (x : X) → length (f x) ≤ 1) (limit : ℕ) (xs : List X) (i : ℕ) where
  one_more : (x : X) → i < length xs → x ≡ get_or xs i x → flat_map f (take i xs) ++ f x ≡ flat_map f (take (i + 1) xs)
  one_more x lt at =
      ap (λ (r : List Y). flat_map f (take i xs) ++ r) (sym (append-nil (f x)))
      ∙ sym (flat_map-append f (take i xs) (x ∷ []))
      ∙ ap (flat_map f) (ap (λ (y : X). take i xs ++ y ∷ []) at ∙ sym (take_more xs i x lt))

  -- the loop takes what the next one gives
  pub step_taken : (x : X) (old new : List Y) → i < length xs → x ≡ get_or xs i x → old ≡ take limit (flat_map f (take i xs)) → length old < limit → new ≡ old ++ f x → new ≡ take limit (flat_map f (take (i + 1) xs))
  step_taken x old new lt at so_far room is =
      is ∙ ap (λ (ys : List Y). ys ++ f x) so_far ∙ more_taken limit (flat_map f (take i xs)) (f x) (subst (λ (ys : List Y). length ys < limit) so_far room) (short x)
      ∙ ap (take limit) (one_more x lt at)

  -- the loop stops at the limit
  pub stop_taken : (found : List Y) → found ≡ take limit (flat_map f (take i xs)) → limit ≤ length found → found ≡ take limit (flat_map f xs)
  stop_taken found so_far full =
      so_far ∙ full_taken limit (flat_map f (take i xs)) (flat_map f (drop i xs)) (subst (λ (ys : List Y). limit ≤ length ys) so_far full)
      ∙ ap (take limit) (sym (flat_map-append f (take i xs) (drop i xs)) ∙ ap (flat_map f) (take-append-drop i xs))

  -- or at the end
  pub all_taken : (found : List Y) → found ≡ take limit (flat_map f (take i xs)) → length xs ≤ i → found ≡ take limit (flat_map f xs)
  all_taken found so_far le = so_far ∙ ap (λ (ys : List X). take limit (flat_map f ys)) (take_all i xs le)

pub flat_mapped : {X Y Z : Type 0} (g : X → Y) (f : Y → List Z) (xs : List X) → flat_map f (map g xs) ≡ flat_map (λ x. f (g x)) xs
flat_mapped g f [] = refl
flat_mapped g f (x ∷ xs) = ap (λ ys. f (g x) ++ ys) (flat_mapped g f xs)
