-- The place just before another is a tumbler and comes before it.
use Rattle.std.proofs.Common.{◌≡◌, ◌≢◌, ℕ, zero, suc, ◌+◌, ◌-◌, ◌<◌, ◌≤◌, List, [], ◌∷◌, ◌++◌, length, get_or, take, refl, arith, ap, ◌∙◌, sym, subst}
use Rattle.std.proofs.lemmas.List.{take_more, take-take, length-take}
use Rattle.std.proofs.lemmas.List.Elements.{All-cons, All-nil, All-head, All-tail}
use Rattle.tumbler.specs.Places.{place_bound, EndsWell, IsTumbler, IsBefore, IsUpTo, led_by, trimmed, lessened, just_before}
use Rattle.tumbler.specs.Laws.{JustBeforeStands}
use Rattle.tumbler.proofs.Order.{before_by_first, before_by_rest, upto_if_before, upto_itself}
use Rattle.tumbler.proofs.Tumblers.{AreSmall, EndsWell-tail, EndsWell-last, EndsWell-more, EndsWell-one, EndsWell-after_zero, AreSmall-after_zero}

-- ---- led by a place

EndsWell-led_by : (x : ℕ) (p : List ℕ) → EndsWell p → EndsWell (led_by x p)
EndsWell-led_by zero p e = EndsWell-after_zero p e
EndsWell-led_by (suc x) [] e = EndsWell-one (suc x) (λ q. cc)
EndsWell-led_by (suc x) (y ∷ p) e = EndsWell-more (suc x) (y ∷ p) (omega arith) e

AreSmall-led_by : (x : ℕ) (p : List ℕ) → x < place_bound → AreSmall p → AreSmall (led_by x p)
AreSmall-led_by zero p h k = AreSmall-after_zero p k
AreSmall-led_by (suc x) p h k = All-cons (λ p. p < place_bound) (suc x) p h k

few-led_by : (x : ℕ) (p : List ℕ) → length (led_by x p) ≤ suc (length p)
few-led_by zero [] = omega arith
few-led_by zero (y ∷ p) = omega arith
few-led_by (suc x) p = omega arith

pub EndsWell-trimmed : (p : List ℕ) → EndsWell (trimmed p)
EndsWell-trimmed [] = λ _. refl
EndsWell-trimmed (x ∷ p) = EndsWell-led_by x (trimmed p) (EndsWell-trimmed p)

AreSmall-trimmed : (p : List ℕ) → AreSmall p → AreSmall (trimmed p)
AreSmall-trimmed [] h = h
AreSmall-trimmed (x ∷ p) h = AreSmall-led_by x (trimmed p) (All-head (λ p. p < place_bound) x p h) (AreSmall-trimmed p (All-tail (λ p. p < place_bound) x p h))

few-trimmed : (p : List ℕ) → length (trimmed p) ≤ length p
few-trimmed [] = omega arith
few-trimmed (x ∷ p) = omega (arith, few-led_by x (trimmed p), few-trimmed p)

length-lessened : (p : List ℕ) → length (lessened p) ≡ length p
length-lessened [] = refl
length-lessened (x ∷ []) = refl
length-lessened (x ∷ y ∷ p) = ap suc (length-lessened (y ∷ p))

AreSmall-lessened : (p : List ℕ) → AreSmall p → AreSmall (lessened p)
AreSmall-lessened [] h = h
AreSmall-lessened (x ∷ []) h = All-cons (λ p. p < place_bound) (x - 1) [] (let small = All-head (λ p. p < place_bound) x [] h in omega arith) (All-nil (λ p. p < place_bound))
AreSmall-lessened (x ∷ y ∷ p) h = All-cons (λ p. p < place_bound) x (lessened (y ∷ p)) (All-head (λ p. p < place_bound) x (y ∷ p) h) (AreSmall-lessened (y ∷ p) (All-tail (λ p. p < place_bound) x (y ∷ p) h))

pub just_before-is_tumbler : (b : List ℕ) → IsTumbler b → IsTumbler (just_before b)
just_before-is_tumbler b t = record {
  few = omega (arith, few-trimmed (lessened b), length-lessened b, t.few);
  small = AreSmall-trimmed (lessened b) (AreSmall-lessened b t.small);
  ends = EndsWell-trimmed (lessened b);
}

-- ---- it comes before

led_by-before : (x : ℕ) (r p : List ℕ) (y : ℕ) → IsBefore r (y ∷ p) → IsBefore (led_by x r) (x ∷ y ∷ p)
led_by-before zero [] p y h = refl
led_by-before zero (z ∷ r) p y h = before_by_rest 0 (z ∷ r) (y ∷ p) h
led_by-before (suc x) r p y h = before_by_rest (suc x) r (y ∷ p) h

less_one : (x : ℕ) → x ≢ 0 → IsBefore (led_by (x - 1) []) (x ∷ [])
less_one zero n = absurd (n refl)
less_one (suc zero) n = refl
less_one (suc (suc x)) n = let e : suc (suc x) - 1 ≡ suc x = omega arith in rw e (before_by_first (suc x) (suc (suc x)) [] [] (omega arith))

pub just_before-before : (b : List ℕ) → EndsWell b → b ≢ [] → IsBefore (just_before b) b
just_before-before [] e n = absurd (n refl)
just_before-before (x ∷ []) e n = less_one x (EndsWell-last x e)
just_before-before (x ∷ y ∷ p) e n = led_by-before x (just_before (y ∷ p)) p y (just_before-before (y ∷ p) (EndsWell-tail x (y ∷ p) e) (λ q. cc))

pub just_before-up_to : (b : List ℕ) → EndsWell b → IsUpTo (just_before b) b
just_before-up_to [] e = upto_itself []
just_before-up_to (x ∷ p) e = upto_if_before (just_before (x ∷ p)) (x ∷ p) (just_before-before (x ∷ p) e (λ q. cc))

pub just_before_stands : JustBeforeStands
just_before_stands b t = record {
  is_tumbler = just_before-is_tumbler b t;
  up_to = just_before-up_to b t.ends;
  before = just_before-before b t.ends;
}

-- ---- how the code trims

led_by-filled : (x y : ℕ) (p : List ℕ) → led_by x (y ∷ p) ≡ x ∷ y ∷ p
led_by-filled zero y p = refl
led_by-filled (suc x) y p = refl

pub trimmed-zero : (p : List ℕ) → trimmed (p ++ 0 ∷ []) ≡ trimmed p
trimmed-zero [] = refl
trimmed-zero (x ∷ p) = ap (led_by x) (trimmed-zero p)

pub trimmed-whole : (p : List ℕ) (y : ℕ) → y ≢ 0 → trimmed (p ++ y ∷ []) ≡ p ++ y ∷ []
trimmed-whole [] zero n = absurd (n refl)
trimmed-whole [] (suc y) n = refl
trimmed-whole (x ∷ []) y n = ap (led_by x) (trimmed-whole [] y n) ∙ led_by-filled x y []
trimmed-whole (x ∷ z ∷ p) y n = ap (led_by x) (trimmed-whole (z ∷ p) y n) ∙ led_by-filled x z (p ++ y ∷ [])

pub trimmed-keeps : (p : List ℕ) (k n : ℕ) → k < length p → get_or p k 0 ≡ 0 → take n p ≡ trimmed (take k p) → take n p ≡ trimmed (take (k + 1) p)
trimmed-keeps p k n lt e h = h ∙ sym (ap trimmed (take_more p k 0 lt) ∙ rw e (trimmed-zero (take k p)))

pub trimmed-grows : (p : List ℕ) (k : ℕ) → k < length p → get_or p k 0 ≢ 0 → take (k + 1) p ≡ trimmed (take (k + 1) p)
trimmed-grows p k lt n = take_more p k 0 lt ∙ sym (ap trimmed (take_more p k 0 lt) ∙ trimmed-whole (take k p) (get_or p k 0) n)

pub lessened-front : (p : List ℕ) (n : ℕ) → length p ≡ n + 1 → lessened p ≡ take n p ++ (get_or p n 0 - 1) ∷ []
lessened-front [] n e = absurd (omega arith)
lessened-front (x ∷ []) zero e = refl
lessened-front (x ∷ []) (suc n) e = absurd (omega arith)
lessened-front (x ∷ y ∷ p) zero e = absurd (omega arith)
lessened-front (x ∷ y ∷ p) (suc n) e = ap (λ (r : List ℕ). x ∷ r) (lessened-front (y ∷ p) n (omega arith))

pub just_before-trims : (p : List ℕ) (n : ℕ) → length p ≡ n + 1 → get_or p n 0 < 2 → just_before p ≡ trimmed (take n p)
just_before-trims p n e lt =
    let none : get_or p n 0 - 1 ≡ 0 = omega arith in
    ap trimmed (lessened-front p n e) ∙ rw none (trimmed-zero (take n p))

pub just_before-lessens : (p : List ℕ) (n : ℕ) → length p ≡ n + 1 → 2 ≤ get_or p n 0 → just_before p ≡ take n p ++ (get_or p n 0 - 1) ∷ []
just_before-lessens p n e le = ap trimmed (lessened-front p n e) ∙ trimmed-whole (take n p) (get_or p n 0 - 1) (omega arith)

pub ruleset trims = (trimmed-keeps, trimmed-grows)

-- the front that the code finds where the last place is below 2: p are the places, of which all but the last are front
pub record Trims (p : List ℕ) (n : ℕ) : Type 0 where
  pub ends : EndsWell (take n p)
  pub value : take n p ≡ just_before p

pub trims_front : (p q front : List ℕ) (n : ℕ) → q ≡ p → 0 < length q → front ≡ take (length q - 1) q → get_or q (length q - 1) 0 < 2 → n ≤ length front → take n front ≡ trimmed front → Trims p n
trims_front p q front n same some is lt within trims =
    let whole : take n p ≡ trimmed front = sym (ap (take n) same) ∙ sym (take-take n (length q - 1) q (omega (arith, ap length is, length-take (length q - 1) q))) ∙ ap (take n) (sym is) ∙ trims in
    let value : trimmed front ≡ just_before p = ap trimmed is ∙ sym (just_before-trims q (length q - 1) (omega arith) lt) ∙ ap just_before same in
    record { ends = subst EndsWell (sym whole) (EndsWell-trimmed front); value = whole ∙ value }

-- the places where the last one is 2 or more: all but the last, and that less 1
pub lessens_last : (p q front held : List ℕ) (last : ℕ) → q ≡ p → 0 < length q → front ≡ take (length q - 1) q → last ≡ get_or q (length q - 1) 0 → 2 ≤ last → held ≡ front ++ (last - 1) ∷ [] → held ≡ just_before p
lessens_last p q front held last same some is at le made =
    made ∙ ap (λ (f : List ℕ). f ++ (last - 1) ∷ []) is ∙ ap (λ (x : ℕ). take (length q - 1) q ++ (x - 1) ∷ []) at
    ∙ sym (just_before-lessens q (length q - 1) (omega arith) (omega arith)) ∙ ap just_before same
