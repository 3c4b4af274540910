-- The reach of places is exact, and moves and joins with them.
use Rattle.std.proofs.Common.{◌≡◌, ◌≢◌, ℕ, zero, suc, ◌+◌, ◌<◌, ◌≤◌, List, [], ◌∷◌, length, take, drop, map, max, arith, refl, ap, sym, ◌∙◌, subst}
use Rattle.std.specs.List.{All}
use Rattle.std.proofs.lemmas.List.Elements.{All-cons, All-nil, All-head, All-tail, All-drop}
use Rattle.tumbler.specs.Places.{place, place_bound, EndsWell, IsTumbler, sum, Fits}
use Rattle.tumbler.specs.Reach.{lead, greater, reach, HasRoom}
use Rattle.tumbler.specs.Laws.{ReachIsExact, ReachIsMoved, ReachIsJoined}
use Rattle.tumbler.proofs.Tumblers.{AreSmall, place-small, EndsWell-tail, EndsWell-last, EndsWell-more, EndsWell-one}
use Rattle.tumbler.proofs.Sums.{fits-nonzero, sum-from_zero}

-- ---- the greater of two

pub greater-none : (a : List ℕ) → greater a [] ≡ a
greater-none [] = refl
greater-none (x ∷ a) = refl

pub greater_assoc : (a b c : List ℕ) → greater (greater a b) c ≡ greater a (greater b c)
greater_assoc [] b c = refl
greater_assoc (x ∷ a) [] c = refl
greater_assoc (x ∷ a) (y ∷ b) [] = refl
greater_assoc (x ∷ a) (y ∷ b) (z ∷ c) = let first : max (max x y) z ≡ max x (max y z) = omega arith in rw (first, greater_assoc a b c) refl

pub greater_comm : (a b : List ℕ) → greater a b ≡ greater b a
greater_comm [] [] = refl
greater_comm [] (y ∷ b) = refl
greater_comm (x ∷ a) [] = refl
greater_comm (x ∷ a) (y ∷ b) = let first : max x y ≡ max y x = omega arith in rw (first, greater_comm a b) refl

pub greater_itself : (a : List ℕ) → greater a a ≡ a
greater_itself [] = refl
greater_itself (x ∷ a) = let first : max x x ≡ x = omega arith in rw (first, greater_itself a) refl

place-greater : (a b : List ℕ) → place (greater a b) 0 ≡ max (place a 0) (place b 0)
place-greater [] [] = refl
place-greater [] (y ∷ b) = let e : y ≡ max 0 y = omega arith in e
place-greater (x ∷ a) [] = let e : x ≡ max x 0 = omega arith in e
place-greater (x ∷ a) (y ∷ b) = refl

drop-greater : (a b : List ℕ) → drop 1 (greater a b) ≡ greater (drop 1 a) (drop 1 b)
drop-greater [] [] = refl
drop-greater [] (y ∷ b) = refl
drop-greater (x ∷ a) [] = sym (greater-none a)
drop-greater (x ∷ a) (y ∷ b) = refl

-- ---- room

pub room_for_both : (a r s : List ℕ) → HasRoom a r → HasRoom a s → HasRoom a (greater r s)
room_for_both a [] s h k = k
room_for_both a (x ∷ r) [] h k = h
room_for_both a (x ∷ r) (y ∷ s) h k = (omega (arith, h.0, k.0), room_for_both (drop 1 a) r s h.1 k.1)

pub room_for_first : (a r s : List ℕ) → HasRoom a (greater r s) → HasRoom a r
room_for_first a [] s h = tt
room_for_first a (x ∷ r) [] h = h
room_for_first a (x ∷ r) (y ∷ s) h = (omega (arith, h.0), room_for_first (drop 1 a) r s h.1)

pub room_for_second : (a r s : List ℕ) → HasRoom a (greater r s) → HasRoom a s
room_for_second a [] s h = h
room_for_second a (x ∷ r) [] h = tt
room_for_second a (x ∷ r) (y ∷ s) h = (omega (arith, h.0), room_for_second (drop 1 a) r s h.1)

pub fits_if_room : (a d : List ℕ) → HasRoom a (lead d) → Fits a d
fits_if_room a [] h = refl
fits_if_room a (zero ∷ d) h = fits_if_room (drop 1 a) d h.1
fits_if_room a (suc x ∷ d) h = (fits-nonzero a (suc x) d (λ q. cc)).1 h.0

pub room_if_fits : (a d : List ℕ) → AreSmall a → Fits a d → HasRoom a (lead d)
room_if_fits a [] s h = tt
room_if_fits a (zero ∷ d) s h = (let small = place-small a 0 s in omega arith, room_if_fits (drop 1 a) d (All-drop (λ p. p < place_bound) 1 a s) h)
room_if_fits a (suc x ∷ d) s h = ((fits-nonzero a (suc x) d (λ q. cc)).0 h, tt)

-- a displacement that has room for a reach can be added to the reach, by its lead
pub lead_fits_if_room : (a r : List ℕ) → AreSmall a → HasRoom a r → Fits r (lead a)
lead_fits_if_room [] r s h = refl
lead_fits_if_room (zero ∷ a) [] s h = lead_fits_if_room a [] (All-tail (λ p. p < place_bound) 0 a s) tt
lead_fits_if_room (zero ∷ a) (x ∷ r) s h = lead_fits_if_room a r (All-tail (λ p. p < place_bound) 0 a s) h.1
lead_fits_if_room (suc y ∷ a) [] s h = (fits-nonzero [] (suc y) [] (λ q. cc)).1 (let small = All-head (λ p. p < place_bound) (suc y) a s in omega arith)
lead_fits_if_room (suc y ∷ a) (x ∷ r) s h = (fits-nonzero (x ∷ r) (suc y) [] (λ q. cc)).1 (omega (arith, h.0))

room_if_all_fit : (a : List ℕ) (several : List (List ℕ)) → AreSmall a → All (Fits a) several → HasRoom a (reach several)
room_if_all_fit a [] s h = tt
room_if_all_fit a (places ∷ more) s h =
    room_for_both a (lead places) (reach more) (room_if_fits a places s (All-head (Fits a) places more h)) (room_if_all_fit a more s (All-tail (Fits a) places more h))

all_fit_if_room : (a : List ℕ) (several : List (List ℕ)) → HasRoom a (reach several) → All (Fits a) several
all_fit_if_room a [] h = All-nil (Fits a)
all_fit_if_room a (places ∷ more) h =
    All-cons (Fits a) places more (fits_if_room a places (room_for_first a (lead places) (reach more) h)) (all_fit_if_room a more (room_for_second a (lead places) (reach more) h))

pub reach_is_exact : ReachIsExact
reach_is_exact a several s = (room_if_all_fit a several s, all_fit_if_room a several)

-- ---- joined and moved

pub reach_is_joined : ReachIsJoined
reach_is_joined [] more = refl
reach_is_joined (places ∷ several) more = ap (greater (lead places)) (reach_is_joined several more) ∙ sym (greater_assoc (lead places) (reach several) (reach more))

-- what is added adds to the greater of two, place by place
pub sum-greater : (a b d : List ℕ) → sum (greater a b) (lead d) ≡ greater (sum a (lead d)) (sum b (lead d))
sum-greater a b [] = refl
sum-greater a b (zero ∷ d) = rw (place-greater a b, drop-greater a b, sum-greater (drop 1 a) (drop 1 b) d) refl
sum-greater a b (suc x ∷ d) = rw (place-greater a b) (ap (λ (n : ℕ). n ∷ []) (omega arith))

lead-nonzero : (x : ℕ) (p : List ℕ) → x ≢ 0 → lead (x ∷ p) ≡ x ∷ []
lead-nonzero zero p n = absurd (n refl)
lead-nonzero (suc x) p n = refl

-- the lead of a displaced place, beside the displacement's own
lead-sum : (d p : List ℕ) → greater (lead d) (lead (sum d p)) ≡ sum (lead p) (lead d)
lead-sum [] p = ap lead (sum-from_zero p)
lead-sum (zero ∷ d) [] = ap (λ (r : List ℕ). 0 ∷ r) (greater_itself (lead d) ∙ sym (sum-from_zero (lead d)))
lead-sum (zero ∷ d) (zero ∷ p) = ap (λ (r : List ℕ). 0 ∷ r) (lead-sum d p)
lead-sum (zero ∷ d) (suc y ∷ p) =
    ap (greater (0 ∷ lead d)) (lead-nonzero (0 + suc y) p (omega arith)) ∙ headed (max 0 (0 + suc y)) (suc y) (lead d) (omega arith)
  where
    headed : (x y : ℕ) (l : List ℕ) → x ≡ y → x ∷ greater l [] ≡ y ∷ sum [] l
    headed x y l e = rw (e, greater-none l, sum-from_zero l) refl
lead-sum (suc x ∷ d) [] = ap (λ (n : ℕ). n ∷ []) (omega arith)
lead-sum (suc x ∷ d) (zero ∷ p) = ap (λ (n : ℕ). n ∷ []) (omega arith)
lead-sum (suc x ∷ d) (suc y ∷ p) =
    ap (greater (suc x ∷ [])) (lead-nonzero (suc x + suc y) p (omega arith)) ∙ ap (λ (n : ℕ). n ∷ []) (omega arith)

-- the greater of two, each taken with l, is the greater of them with l
greater_twice : (l m r : List ℕ) → greater (greater l m) (greater l r) ≡ greater l (greater m r)
greater_twice l m r =
    greater_assoc l m (greater l r)
    ∙ ap (greater l) (sym (greater_assoc m l r) ∙ ap (λ (x : List ℕ). greater x r) (greater_comm m l) ∙ greater_assoc l m r)
    ∙ sym (greater_assoc l l (greater m r))
    ∙ ap (λ (x : List ℕ). greater x (greater m r)) (greater_itself l)

pub reach_is_moved : ReachIsMoved
reach_is_moved d [] = greater-none (lead d) ∙ sym (sum-from_zero (lead d))
reach_is_moved d (p ∷ several) =
    sym (sum-greater (lead p) (reach several) d
    ∙ ap (λ (x : List ℕ). greater x (sum (reach several) (lead d))) (sym (lead-sum d p))
    ∙ ap (greater (greater (lead d) (lead (sum d p)))) (sym (reach_is_moved d several))
    ∙ greater_twice (lead d) (lead (sum d p)) (reach (map (sum d) several)))

-- ---- tumblers

few-lead : (p : List ℕ) → length (lead p) ≤ length p
few-lead [] = omega arith
few-lead (zero ∷ p) = omega (arith, few-lead p)
few-lead (suc x ∷ p) = omega arith

small-lead : (p : List ℕ) → AreSmall p → AreSmall (lead p)
small-lead [] h = h
small-lead (zero ∷ p) h = All-cons (λ p. p < place_bound) 0 (lead p) (omega arith) (small-lead p (All-tail (λ p. p < place_bound) 0 p h))
small-lead (suc x ∷ p) h = All-cons (λ p. p < place_bound) (suc x) [] (All-head (λ p. p < place_bound) (suc x) p h) (All-nil (λ p. p < place_bound))

lead-filled : (x : ℕ) (p : List ℕ) → 0 < length (lead (x ∷ p))
lead-filled zero p = omega arith
lead-filled (suc x) p = omega arith

pub EndsWell-lead : (p : List ℕ) → EndsWell p → EndsWell (lead p)
EndsWell-lead [] e = e
EndsWell-lead (zero ∷ []) e = absurd (EndsWell-last 0 e refl)
EndsWell-lead (zero ∷ y ∷ p) e = EndsWell-more 0 (lead (y ∷ p)) (lead-filled y p) (EndsWell-lead (y ∷ p) (EndsWell-tail 0 (y ∷ p) e))
EndsWell-lead (suc x ∷ p) e = EndsWell-one (suc x) (λ q. cc)

pub EndsWell-lead_front : (p q : List ℕ) (n : ℕ) → q ≡ p → take n q ≡ lead q → EndsWell p → EndsWell (take n p)
EndsWell-lead_front p q n same front e = subst EndsWell (sym (rw same at front)) (EndsWell-lead p e)

pub lead-is_tumbler : (p : List ℕ) → IsTumbler p → IsTumbler (lead p)
lead-is_tumbler p t = record { few = omega (arith, few-lead p, t.few); small = small-lead p t.small; ends = EndsWell-lead p t.ends }

few-greater : (a b : List ℕ) (n : ℕ) → length a ≤ n → length b ≤ n → length (greater a b) ≤ n
few-greater [] b n h k = k
few-greater (x ∷ a) [] n h k = h
few-greater (x ∷ a) (y ∷ b) zero h k = absurd (omega arith)
few-greater (x ∷ a) (y ∷ b) (suc n) h k = omega (arith, few-greater a b n (omega arith) (omega arith))

small-greater : (a b : List ℕ) → AreSmall a → AreSmall b → AreSmall (greater a b)
small-greater [] b h k = k
small-greater (x ∷ a) [] h k = h
small-greater (x ∷ a) (y ∷ b) h k =
    let first = All-head (λ p. p < place_bound) x a h in
    let second = All-head (λ p. p < place_bound) y b k in
    All-cons (λ p. p < place_bound) (max x y) (greater a b) (omega arith)
    (small-greater a b (All-tail (λ p. p < place_bound) x a h) (All-tail (λ p. p < place_bound) y b k))

greater-filled : (y : ℕ) (a b : List ℕ) → 0 < length (greater a (y ∷ b))
greater-filled y [] b = omega arith
greater-filled y (x ∷ a) b = omega arith

pub EndsWell-greater : (a b : List ℕ) → EndsWell a → EndsWell b → EndsWell (greater a b)
EndsWell-greater [] b e g = g
EndsWell-greater (x ∷ a) [] e g = e
EndsWell-greater (x ∷ []) (y ∷ []) e g = EndsWell-one (max x y) (let n = EndsWell-last x e in λ q. n (omega arith))
EndsWell-greater (x ∷ a) (y ∷ z ∷ b) e g = EndsWell-more (max x y) (greater a (z ∷ b)) (greater-filled z a b) (EndsWell-greater a (z ∷ b) (EndsWell-tail x a e) (EndsWell-tail y (z ∷ b) g))
EndsWell-greater (x ∷ z ∷ a) (y ∷ []) e g = EndsWell-more (max x y) (z ∷ a) (omega arith) (EndsWell-tail x (z ∷ a) e)

pub greater-is_tumbler : (a b : List ℕ) → IsTumbler a → IsTumbler b → IsTumbler (greater a b)
greater-is_tumbler a b t u = record {
  few = few-greater a b 24 t.few u.few;
  small = small-greater a b t.small u.small;
  ends = EndsWell-greater a b t.ends u.ends;
}

-- that leads and greater places are tumblers
pub ruleset reach_tumblers = (lead-is_tumbler, greater-is_tumbler)

-- how room tells what fits
pub ruleset room = (room_for_both, room_for_first, room_for_second, fits_if_room, room_if_fits, lead_fits_if_room)
