-- The order, the sum and the difference, said by their places.
use Rattle.std.proofs.Common.{◌≡◌, ℕ, zero, suc, ◌+◌, ◌-◌, ◌<◌, List, [], ◌∷◌, drop, arith, refl, sym, ap, ◌∙◌, inl, inr}
use Rattle.tumbler.specs.Places.{place, EndsWell, IsBefore, IsUpTo, sum, after_zero, difference}
use Rattle.tumbler.specs.Laws.{IsFirstLess, OrderByPlaces, AddsAt, SumByPlaces, IsFirstOther, TakesAt, DifferenceByPlaces}
use Rattle.tumbler.proofs.Order.{upto_cases, before_cases, before_by_first, before_by_rest}
use Rattle.tumbler.proofs.Tumblers.{difference-same, difference-less, EndsWell-tail, EndsWell-last}

first_less-more : (x : ℕ) (a b : List ℕ) → IsFirstLess a b → IsFirstLess (x ∷ a) (x ∷ b)
first_less-more x a b f = record { at = suc f.at; same = same; less = f.less }
  where
    same : (j : ℕ) → j < suc f.at → place (x ∷ a) j ≡ place (x ∷ b) j
    same zero h = refl
    same (suc j) h = f.same j (omega arith)

first_less-from_zero : (b : List ℕ) → IsFirstLess [] b → IsFirstLess [] (0 ∷ b)
first_less-from_zero b f = record { at = suc f.at; same = same; less = f.less }
  where
    same : (j : ℕ) → j < suc f.at → place [] j ≡ place (0 ∷ b) j
    same zero h = refl
    same (suc j) h = f.same j (omega arith)

first_less : (a b : List ℕ) → EndsWell b → IsBefore a b → IsFirstLess a b
first_less [] [] e h = cc
first_less (x ∷ a) [] e h = cc
first_less [] (suc y ∷ b) e h = record { at = 0; same = λ j l. absurd (omega arith); less = omega arith }
first_less [] (zero ∷ []) e h = absurd (EndsWell-last 0 e refl)
first_less [] (zero ∷ z ∷ b) e h = first_less-from_zero (z ∷ b) (first_less [] (z ∷ b) (EndsWell-tail 0 (z ∷ b) e) refl)
first_less (x ∷ a) (y ∷ b) e h = elim (before_cases x y a b h) [
  | inl less ↦ record { at = 0; same = λ j l. absurd (omega arith); less = less }
  | inr same ↦ rw same.0 (first_less-more y a b (first_less a b (EndsWell-tail y b e) same.1))
]

before_at : (a b : List ℕ) (k : ℕ) → ((j : ℕ) → j < k → place a j ≡ place b j) → place a k < place b k → IsBefore a b
before_at [] [] k same less = absurd (omega arith)
before_at [] (y ∷ b) k same less = refl
before_at (x ∷ a) [] k same less = absurd (omega arith)
before_at (x ∷ a) (y ∷ b) zero same less = before_by_first x y a b less
before_at (x ∷ a) (y ∷ b) (suc k) same less =
    let first : x ≡ y = same 0 (omega arith) in
    rw first (before_by_rest y a b (before_at a b k (λ j h. same (suc j) (omega arith)) less))

pub order_by_places : OrderByPlaces
order_by_places a b e = (first_less a b e, λ f. before_at a b f.at f.same f.less)

place-drop : (a : List ℕ) (j : ℕ) → place (drop 1 a) j ≡ place a (suc j)
place-drop [] j = refl
place-drop (x ∷ a) j = refl

pub sum_by_places : SumByPlaces
sum_by_places a [] k f = absurd (f.here refl)
sum_by_places a (suc x ∷ d) zero f = record { before = λ j h. absurd (omega arith); here = refl; after = after; as_long = refl }
  where
    after : (j : ℕ) → 0 < j → place ((place a 0 + suc x) ∷ d) j ≡ place (suc x ∷ d) j
    after zero h = absurd (omega arith)
    after (suc j) h = refl
sum_by_places a (suc x ∷ d) (suc k) f = absurd (let h : suc x ≡ 0 = f.before 0 (omega arith) in omega arith)
sum_by_places a (zero ∷ d) zero f = absurd (f.here refl)
sum_by_places a (zero ∷ d) (suc k) f =
    added (sum_by_places (drop 1 a) d k (record { before = λ j h. f.before (suc j) (omega arith); here = f.here }))
  where
    added : AddsAt (drop 1 a) d (sum (drop 1 a) d) k → AddsAt a (0 ∷ d) (place a 0 ∷ sum (drop 1 a) d) (suc k)
    added r = record { before = before; here = r.here ∙ ap (λ (n : ℕ). n + place d k) (place-drop a k); after = after; as_long = ap suc r.as_long }
      where
        before : (j : ℕ) → j < suc k → place (place a 0 ∷ sum (drop 1 a) d) j ≡ place a j
        before zero h = refl
        before (suc j) h = r.before j (omega arith) ∙ place-drop a j

        after : (j : ℕ) → suc k < j → place (place a 0 ∷ sum (drop 1 a) d) j ≡ place (0 ∷ d) j
        after zero h = absurd (omega arith)
        after (suc j) h = r.after j (omega arith)

-- at the first place where they differ, what is up to the other has the lesser
lesser-at : (a b : List ℕ) (k : ℕ) → IsUpTo a b → IsFirstOther a b k → place a k < place b k
lesser-at [] b k u f = let other = f.here in omega arith
lesser-at (x ∷ a) [] k u f = absurd (u refl)
lesser-at (x ∷ a) (y ∷ b) zero u f = elim (upto_cases x y a b u) [
  | inl less ↦ less
  | inr same ↦ absurd (f.here same.0)
]
lesser-at (x ∷ a) (y ∷ b) (suc k) u f = elim (upto_cases x y a b u) [
  | inl less ↦ absurd (let first : x ≡ y = f.before 0 (omega arith) in omega arith)
  | inr same ↦ lesser-at a b k same.1 (record { before = λ j h. f.before (suc j) (omega arith); here = f.here })
]

after_zero-filled : (d : List ℕ) (k : ℕ) → 0 < place d k → after_zero d ≡ 0 ∷ d
after_zero-filled [] k h = absurd (omega arith)
after_zero-filled (x ∷ d) k h = refl

taken-first : (x y : ℕ) (a b : List ℕ) → TakesAt (x ∷ a) (y ∷ b) ((y - x) ∷ b) 0
taken-first x y a b = record { before = λ j h. absurd (omega arith); here = refl; after = after; as_long = refl }
  where
    after : (j : ℕ) → 0 < j → place ((y - x) ∷ b) j ≡ place (y ∷ b) j
    after zero h = absurd (omega arith)
    after (suc j) h = refl

taken-more : (x y : ℕ) (a b d : List ℕ) (k : ℕ) → TakesAt a b d k → TakesAt (x ∷ a) (y ∷ b) (0 ∷ d) (suc k)
taken-more x y a b d k t = record { before = before; here = t.here; after = after; as_long = ap suc t.as_long }
  where
    before : (j : ℕ) → j < suc k → place (0 ∷ d) j ≡ 0
    before zero h = refl
    before (suc j) h = t.before j (omega arith)

    after : (j : ℕ) → suc k < j → place (0 ∷ d) j ≡ place (y ∷ b) j
    after zero h = absurd (omega arith)
    after (suc j) h = t.after j (omega arith)

pub difference_by_places : DifferenceByPlaces
difference_by_places [] b k u f = record { before = λ j h. sym (f.before j h); here = omega arith; after = λ j h. refl; as_long = refl }
difference_by_places (x ∷ a) [] k u f = absurd (u refl)
difference_by_places (x ∷ a) (y ∷ b) zero u f = elim (upto_cases x y a b u) [
  | inl less ↦ rw (difference-less y x b a less) (taken-first x y a b)
  | inr same ↦ absurd (f.here same.0)
]
difference_by_places (x ∷ a) (y ∷ b) (suc k) u f = elim (upto_cases x y a b u) [
  | inl less ↦ absurd (let first : x ≡ y = f.before 0 (omega arith) in omega arith)
  | inr same ↦
      let later : IsFirstOther a b k = record { before = λ j h. f.before (suc j) (omega arith); here = f.here } in
      let taken = difference_by_places a b k same.1 later in
      let lesser = lesser-at a b k same.1 later in
      let filled : 0 < place (difference b a) k = let here = taken.here in omega arith in
      rw (same.0, difference-same y b a, after_zero-filled (difference b a) k filled) (taken-more y y a b (difference b a) k taken)
]
