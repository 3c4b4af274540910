-- A list of which the first items were changed, one after another.
use Rattle.std.proofs.Common.{◌≡◌, ◌∙◌, ℕ, ◌+◌, ◌<◌, ◌≤◌, List, [], ◌∷◌, ◌++◌, length, take, drop, map, get_or, set, sym, ap, arith, append_assoc, append-nil}
use Rattle.std.proofs.Math.ListN.{drop_of_length-le}
use Rattle.std.proofs.lemmas.List.{length-map, length-take-le, take_more, drop_more, take_all, set_at, get_or_at, map-append}

module _ {X : Type 0} (f : X → X) (xs : List X) (k : ℕ) (d : X) (lt : k < length xs) where
  abbrev changed : List X
  changed = map f (take k xs)

  long : length changed ≡ k
  long = length-map (take k xs) f ∙ length-take-le k xs (omega (arith, lt))

  abbrev x : X
  x = get_or xs k d

  pub changed_reads : (ys : List X) → ys ≡ map f (take k xs) ++ drop k xs → get_or ys k d ≡ get_or xs k d
  changed_reads ys is = ap (λ (zs : List X). get_or zs k d) (is ∙ ap (λ (r : List X). changed ++ r) (drop_more xs k d lt)) ∙ get_or_at changed x (drop (k + 1) xs) d k long

  pub changed_next : (ys : List X) → ys ≡ map f (take k xs) ++ drop k xs → set ys k (f (get_or xs k d)) ≡ map f (take (k + 1) xs) ++ drop (k + 1) xs
  changed_next ys is =
      ap (λ (zs : List X). set zs k (f x)) (is ∙ ap (λ (r : List X). changed ++ r) (drop_more xs k d lt))
      ∙ set_at changed x (drop (k + 1) xs) (f x) k long
      ∙ sym (append_assoc changed (f x ∷ []) (drop (k + 1) xs))
      ∙ ap (λ (r : List X). r ++ drop (k + 1) xs) (sym (ap (map f) (take_more xs k d lt) ∙ map-append f (take k xs) (x ∷ [])))

pub changed_all : {X : Type 0} (f : X → X) (xs ys : List X) (k : ℕ) → length xs ≤ k → ys ≡ map f (take k xs) ++ drop k xs → ys ≡ map f xs
changed_all f xs ys k le is = is ∙ (λ i. map f (take_all k xs le i) ++ drop_of_length-le xs {i = k} le i) ∙ append-nil (map f xs)
