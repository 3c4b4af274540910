-- Lists in one order with the same elements are the same.
use Rattle.std.proofs.Common.{◌≡◌, ◌⊎◌, List, [], ◌∷◌, refl, sym, subst, inl, inr}
use Rattle.std.specs.Prelude.{All, IsPermutation}
use Rattle.std.specs.List.{AllByRecursion}
use Rattle.std.proofs.lemmas.List.Elements.{All-nil, All-cons, All-head, All-tail, All-weaker}
use Rattle.std.proofs.lemmas.List.Sorted.{IsPermutation-sym, All-permutation}

-- some element is z
abbrev pub IsIn : {X : Type 0} → X → List X → Type 0
IsIn z [] = ⊥
IsIn z (x ∷ xs) = (x ≡ z) ⊎ IsIn z xs

all_in : {X : Type 0} (xs : List X) → All (λ (z : X). IsIn z xs) xs
all_in [] = All-nil (λ z. IsIn z [])
all_in {X} (x ∷ xs) = All-cons (λ (z : X). IsIn z (x ∷ xs)) x xs (inl refl) (All-weaker (λ (z : X). IsIn z xs) (λ (z : X). IsIn z (x ∷ xs)) (λ z h. inr h) xs (all_in xs))

by_recursion : {X : Type 0} (P : X → Type 0) (xs : List X) → All P xs → AllByRecursion P xs
by_recursion P [] all = tt
by_recursion P (x ∷ xs) all = (All-head P x xs all, by_recursion P xs (All-tail P x xs all))

among : {X : Type 0} (P : X → Type 0) (xs : List X) (z : X) → AllByRecursion P xs → IsIn z xs → P z
among P [] z all is = absurd is
among P (x ∷ xs) z all is = elim is [ inl e ↦ subst P e all.0 | inr rest ↦ among P xs z all.1 rest ]

module _ {X : Type 0} (Before : X → X → Type 0) (never : (x y : X) → Before x y → Before y x → ⊥) where
  abbrev pub Rises : List X → Type 0
  Rises [] = Unit {0}
  Rises (x ∷ xs) = AllByRecursion (Before x) xs × Rises xs

  without : (x y : X) → x ≡ y → (ys zs : List X) → AllByRecursion (Before x) zs → AllByRecursion (λ z. IsIn z (y ∷ ys)) zs → AllByRecursion (λ z. IsIn z ys) zs
  without x y e ys [] behind are = tt
  without x y e ys (z ∷ zs) behind are = (elim are.0 [ inl is ↦ absurd (itself z (sym is) behind.0) | inr rest ↦ rest ], without x y e ys zs behind.1 are.1)
    where
      itself : (z : X) → z ≡ y → Before x z → ⊥
      itself z same before = let own : Before x x = subst (Before x) (sym e) (subst (Before x) same before) in never x x own own

  same_rising : (xs ys : List X) → Rises xs → Rises ys → AllByRecursion (λ z. IsIn z ys) xs → AllByRecursion (λ z. IsIn z xs) ys → xs ≡ ys
  same_rising [] [] up down some others = refl
  same_rising [] (y ∷ ys) up down some others = absurd others.0
  same_rising (x ∷ xs) [] up down some others = absurd some.0
  same_rising (x ∷ xs) (y ∷ ys) up down some others =
      let head : x ≡ y = elim some.0 [ inl e ↦ sym e | inr in_ys ↦ elim others.0 [ inl e ↦ e | inr in_xs ↦ absurd (never x y (among (Before x) xs y up.0 in_xs) (among (Before y) ys x down.0 in_ys)) ] ] in
      let tail = same_rising xs ys up.1 down.1 (without x y head ys xs up.0 some.1) (without y x (sym head) xs ys down.0 others.1) in
      λ i. head i ∷ tail i

  -- in another order and rising, it is the same list
  pub rising_same : (xs ys : List X) → IsPermutation xs ys → Rises xs → Rises ys → xs ≡ ys
  rising_same xs ys moved up down =
      same_rising xs ys up down
      (by_recursion (λ z. IsIn z ys) xs (All-permutation (λ z. IsIn z ys) ys xs (IsPermutation-sym xs ys moved) (all_in ys)))
      (by_recursion (λ z. IsIn z xs) ys (All-permutation (λ z. IsIn z xs) xs ys moved (all_in xs)))
