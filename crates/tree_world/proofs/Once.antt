-- Lists in which no element is the same as one behind it.
use Rattle.std.proofs.Common.{◌≡◌, Bool, true, false, cond, List, [], ◌∷◌, ◌++◌, refl}
use Rattle.std.specs.Prelude.{filter}
use Rattle.std.specs.List.{list_any}
use Rattle.tree_world.specs.Standing.{EachOnce}
use Rattle.tree_world.proofs.Found.{either_none}

module _ {X : Type 0} where
  pub none_filtered : (p q : X → Bool) (xs : List X) → list_any p xs ≡ false → list_any p (filter q xs) ≡ false
  none_filtered p q [] none = refl
  none_filtered p q (x ∷ xs) none = step (q x) (none_filtered p q xs (either_none (p x) (list_any p xs) none).1)
    where
      step : (b : Bool) → list_any p (filter q xs) ≡ false → list_any p (cond b (x ∷ filter q xs) (filter q xs)) ≡ false
      step true rest = rw ((either_none (p x) (list_any p xs) none).0) rest
      step false rest = rest

  pub none_last : (p : X → Bool) (xs : List X) (y : X) → list_any p xs ≡ false → p y ≡ false → list_any p (xs ++ y ∷ []) ≡ false
  none_last p [] y none other = rw other refl
  none_last p (x ∷ xs) y none other =
      let parts = either_none (p x) (list_any p xs) none in
      rw (parts.0) (none_last p xs y parts.1 other)

  module _ (same : X → X → Bool) where
    pub each_filtered : (q : X → Bool) (xs : List X) → EachOnce same xs → EachOnce same (filter q xs)
    each_filtered q [] once = tt
    each_filtered q (x ∷ xs) once = step (q x) (each_filtered q xs once.1)
      where
        step : (b : Bool) → EachOnce same (filter q xs) → EachOnce same (cond b (x ∷ filter q xs) (filter q xs))
        step true rest = (none_filtered (same x) q xs once.0, rest)
        step false rest = rest

    pub each_last : (xs : List X) (y : X) → EachOnce same xs → list_any (λ x. same x y) xs ≡ false → EachOnce same (xs ++ y ∷ [])
    each_last [] y once none = (refl, tt)
    each_last (x ∷ xs) y once none =
        let parts = either_none (same x y) (list_any (λ z. same z y) xs) none in
        (none_last (same x) xs y once.0 parts.0, each_last xs y once.1 parts.1)
