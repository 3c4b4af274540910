-- What holds of each element of a list and each later one.
use Rattle.std.proofs.Common.{◌∷◌, ◌++◌, [], suc, List, map, arith, All, get_or}
use Rattle.std.specs.List.{AllPairs}
use Rattle.std.proofs.lemmas.List.Elements.{All-append, All-map}
use Rattle.std.proofs.lemmas.List.Kept.{AllPairs-cons}

module _ {X : Type 0} (R : X → X → Type 0) where
  pub none_later : AllPairs R []
  none_later i j d lt within = absurd (omega arith)

  pub after_first : (x : X) (xs : List X) → AllPairs R (x ∷ xs) → All (R x) xs
  after_first x xs each k d within = each 0 (suc k) d (omega arith) (omega arith)

  pub without_first : (x : X) (xs : List X) → AllPairs R (x ∷ xs) → AllPairs R xs
  without_first x xs each i j d lt within = each (suc i) (suc j) d (omega arith) (omega arith)

  pub pairs_append : (xs ys : List X) → AllPairs R xs → AllPairs R ys → All (λ x. All (R x) ys) xs → AllPairs R (xs ++ ys)
  pairs_append [] ys first second across = second
  pairs_append (x ∷ xs) ys first second across =
      AllPairs-cons R x (xs ++ ys) (All-append (R x) xs ys (after_first x xs first) (across 0 x (omega arith)))
      (pairs_append xs ys (without_first x xs first) second (λ k d within. across (suc k) d (omega arith)))

pub pairs_map : {X Y : Type 0} (R : X → X → Type 0) (S : Y → Y → Type 0) (f : X → Y) → ((x y : X) → R x y → S (f x) (f y)) → (xs : List X) → AllPairs R xs → AllPairs S (map f xs)
pairs_map R S f keeps [] each = none_later S
pairs_map R S f keeps (x ∷ xs) each =
    AllPairs-cons S (f x) (map f xs) (All-map (S (f x)) f xs (λ k d within. keeps x (get_or xs k d) (after_first R x xs each k d within))) (pairs_map R S f keeps xs (without_first R x xs each))
