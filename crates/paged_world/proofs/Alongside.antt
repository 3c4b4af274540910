-- Two lists that are gone through side by side, and tests that are decided.
use Rattle.std.proofs.Common.{◌≡◌, ◌∙◌, ℕ, zero, suc, ◌+◌, ◌<◌, ◌≤◌, ◌++◌, Bool, true, false, true≢false, List, [], ◌∷◌, length, map, take, get_or, refl, sym, ap, arith}
use Rattle.std.specs.Prelude.{IsTrue, ◌↔◌}
use Rattle.std.proofs.lemmas.List.{take_all, map_more}

-- ---- tests

pub yes_iff : {F : Type 0} → F → IsTrue true ↔ F
yes_iff f = ((λ e. f), (λ g. refl))

pub no_iff : {F : Type 0} → (F → ⊥) → IsTrue false ↔ F
no_iff not = ((λ e. absurd (true≢false (sym e))), (λ f. absurd (not f)))

-- what a test that failed decides does not hold
pub refuted : {F : Type 0} (b : Bool) → IsTrue b ↔ F → b ≡ false → F → ⊥
refuted b decides e f = true≢false (sym (decides.1 f) ∙ e)

-- ---- two lists that are the same, first element and the others

abbrev tail_of : {X : Type 0} → List X → List X
tail_of [] = []
tail_of (x ∷ xs) = xs

pub heads : {X : Type 0} (x y : X) (xs ys : List X) → x ∷ xs ≡ y ∷ ys → x ≡ y
heads x y xs ys e = cc

pub tails : {X : Type 0} (x y : X) (xs ys : List X) → x ∷ xs ≡ y ∷ ys → xs ≡ ys
tails x y xs ys e = ap tail_of e

pub none_is : {X : Type 0} (x : X) (xs : List X) → [] ≡ x ∷ xs → ⊥
none_is x xs e = cc

-- ---- side by side

module _ {X Y : Type 0} (f : X → Y) where
  at_same : (xs ys : List X) (k : ℕ) (x y : X) → k < length xs → k < length ys → map f xs ≡ map f ys → f (get_or xs k x) ≡ f (get_or ys k y)
  at_same [] ys k x y lt also same = absurd (omega (arith, lt))
  at_same (a ∷ xs) [] k x y lt also same = absurd (omega (arith, also))
  at_same (a ∷ xs) (b ∷ ys) zero x y lt also same = heads (f a) (f b) (map f xs) (map f ys) same
  at_same (a ∷ xs) (b ∷ ys) (suc k) x y lt also same = at_same xs ys k x y (omega (arith, lt)) (omega (arith, also)) (tails (f a) (f b) (map f xs) (map f ys) same)

  -- one that differs tells the lists apart
  pub along_differ : (xs ys : List X) (k : ℕ) (x y : X) → k < length xs → k < length ys → x ≡ get_or xs k x → y ≡ get_or ys k y → (f x ≡ f y → ⊥) → map f xs ≡ map f ys → ⊥
  along_differ xs ys k x y lt also here there differ same = differ (ap f here ∙ at_same xs ys k x y lt also same ∙ sym (ap f there))

  pub along_more : (xs ys : List X) (k : ℕ) (x y : X) → k < length xs → k < length ys → x ≡ get_or xs k x → y ≡ get_or ys k y → f x ≡ f y → map f (take k xs) ≡ map f (take k ys) → map f (take (k + 1) xs) ≡ map f (take (k + 1) ys)
  along_more xs ys k x y lt also here there same before =
      map_more f xs k x lt ∙ (λ i. before i ++ (sym (ap f here) ∙ same ∙ ap f there) i ∷ []) ∙ sym (map_more f ys k y also)

  pub along_all : (xs ys : List X) (k : ℕ) → length xs ≤ k → length ys ≤ k → map f (take k xs) ≡ map f (take k ys) → map f xs ≡ map f ys
  along_all xs ys k past also same = sym (ap (map f) (take_all k xs past)) ∙ same ∙ ap (map f) (take_all k ys also)

  pub as_long : (xs ys : List X) → map f xs ≡ map f ys → length xs ≡ length ys
  as_long [] [] same = refl
  as_long [] (y ∷ ys) same = absurd (none_is (f y) (map f ys) same)
  as_long (x ∷ xs) [] same = absurd (none_is (f x) (map f xs) (sym same))
  as_long (x ∷ xs) (y ∷ ys) same = omega (arith, as_long xs ys (tails (f x) (f y) (map f xs) (map f ys) same))
