-- One step of a sum, of a difference and of a comparison over places with zeros behind them, and its end.
use Rattle.std.proofs.Common.{◌≡◌, ◌≢◌, ℕ, zero, suc, true, false, min, ◌+◌, ◌-◌, ◌^◌, ◌<◌, ◌≤◌, ltb, List, [], ◌∷◌, ◌++◌, length, get_or, take, drop, replicate, refl, arith, ap, subst, ◌∙◌, sym, append_assoc, length-take-le, inl, inr}
use Rattle.std.proofs.Math.ListN.{set}
use Rattle.std.proofs.Math.Seq.{take-add}
use Rattle.std.proofs.lemmas.List.{take_more_set, drop-set-lt, length-set, drop-drop, drop-take, get_or-take, get_or-set_same, get_or-set_other, get_or_past, drop-replicate, drop_more, length-drop}
use Rattle.std.proofs.lemmas.Bool.Decides.{nat_tests}
use Rattle.std.proofs.lemmas.Grind.{get_or-set_at, get_or_after_one}
use Rattle.std.proofs.lemmas.Bool.{cases_lt}
use Rattle.std.specs.declared.option.Option.{Option}
use Rattle.std.specs.declared.option.Option.TheVariants.{Some, None}
use Rattle.std.specs.Option.{SomeIff, is_some}
use Rattle.std.specs.Ordering.{nat_cmp, ordering_then, is_lt}
use Rattle.std.specs.declared.cmp.Ordering.{Ordering}
use Rattle.std.specs.declared.cmp.Ordering.TheVariants.{Less, Greater}
use Rattle.std.specs.Cmp.Lexicographic.{slice_cmp}
use Rattle.tumbler.specs.Places.{sum, fits, EndsWell, IsUpTo, comes_before, difference, after_zero}
use Rattle.tumbler.specs.Padded.{IsPadded, AreCells}
use Rattle.tumbler.proofs.Tumblers.{EndsWell-tail}
use Rattle.tumbler.proofs.DifferenceSteps.{difference-same, difference-apart, after_zero-filled, slice_cmp-same, IsUpTo-head, IsUpTo-rest}
use Rattle.tumbler.proofs.Before.{up_to_none}
use Rattle.tumbler.proofs.LeadingZeros.{AreZero, cells-zero, cells-blank, cells-filled, cells-none, counted-within, counted-most, zeros-set_some, zeros-set_none, zeros-found, zeros-placed}

-- ---- cells

front_long : (n : ℕ) (cells : List ℕ) → IsPadded n cells → length (take n cells) ≡ n
front_long n cells padded = length-take-le n cells (omega (arith, padded.few, padded.long))

-- a place that is missing is 0, and so is its cell
pub padded-place : (n : ℕ) (cells : List ℕ) (k : ℕ) → IsPadded n cells → k < 24 → get_or (take n cells) k 0 ≡ get_or cells k 0
padded-place n cells k padded lt = elim (cases_lt k n) [
  | inl within ↦ get_or-take n cells k 0 within
  | inr behind ↦
      let none : get_or (take n cells) k 0 ≡ 0 = get_or_past (take n cells) k 0 (omega (arith, front_long n cells padded, behind)) in
      none ∙ sym (cells-blank n cells k padded behind lt)
]

rest_on : (xs ys : List ℕ) (k j : ℕ) → drop k xs ≡ drop k ys → drop (k + j) xs ≡ drop (k + j) ys
rest_on xs ys k j e = sym (drop-drop j k xs) ∙ ap (drop j) e ∙ drop-drop j k ys

front_then_rest : (cells d : List ℕ) (k m v : ℕ) → k < length cells → drop k cells ≡ drop k d
    → take ((k + 1) + m) (set cells k v) ≡ take k cells ++ v ∷ drop (k + 1) (take ((k + 1) + m) d)
front_then_rest cells d k m v lt e =
    take-add (k + 1) m (set cells k v)
    ∙ ap (λ (front : List ℕ). front ++ take m (drop (k + 1) (set cells k v))) (take_more_set cells k v lt)
    ∙ append_assoc (take k cells) (v ∷ []) (take m (drop (k + 1) (set cells k v)))
    ∙ ap (λ (r : List ℕ). take k cells ++ v ∷ take m r) (drop-set-lt (k + 1) cells k v (omega arith) ∙ rest_on cells d k 1 e)
    ∙ ap (λ (r : List ℕ). take k cells ++ v ∷ r) (sym (drop-take (k + 1) m d))

-- cells whose rest is that of others are padded as these are
pub rest-padded : (n : ℕ) (d cells : List ℕ) (k v : ℕ) → IsPadded n d → length cells ≡ 24 → drop k cells ≡ drop k d → k < n → IsPadded n (set cells k v)
rest-padded n d cells k v padded long e lt =
    let at : k + (n - k) ≡ n = omega (arith, lt) in
    record {
      few = padded.few;
      long = length-set cells k v ∙ long;
      zeros = drop-set-lt n cells k v lt ∙ ap (λ (i : ℕ). drop i cells) (sym at) ∙ rest_on cells d k (n - k) e ∙ ap (λ (i : ℕ). drop i d) at ∙ padded.zeros;
    }

-- one place more takes the first blank cell
pub padded-more : (n : ℕ) (cells : List ℕ) (v : ℕ) → IsPadded n cells → length (take n cells) < 24 → IsPadded (n + 1) (set cells n v)
padded-more n cells v padded lt =
    let here : n < 24 = omega (arith, lt, front_long n cells padded) in
    let fewer : (24 - n) - 1 ≡ 24 - (n + 1) = omega arith in
    record {
      few = omega (arith, here);
      long = length-set cells n v ∙ padded.long;
      zeros = drop-set-lt (n + 1) cells n v (omega arith) ∙ sym (drop-drop 1 n cells) ∙ ap (drop 1) padded.zeros ∙ drop-replicate 1 (24 - n) 0 ∙ ap (λ (k : ℕ). replicate k 0) fewer;
    }

pub push-filled : (n z : ℕ) (cells : List ℕ) (v : ℕ) → AreCells n z cells → length (take n cells) < 24 → v ≢ 0 → AreCells (n + 1) (min z n) (set cells n v)
push-filled n z cells v are lt ne = record {
  padded = padded-more n cells v are.padded lt;
  zeros = ap (λ (i : ℕ). min i n) are.zeros ∙ sym (zeros-set_some cells n v (omega (arith, lt, front_long n cells are.padded, are.padded.long)) ne);
}

pub push-blank : (n z : ℕ) (cells : List ℕ) (v : ℕ) → AreCells n z cells → length (take n cells) < 24 → v ≡ 0 → AreCells (n + 1) z (set cells n v)
push-blank n z cells v are lt e = record {
  padded = padded-more n cells v are.padded lt;
  zeros = are.zeros ∙ sym (zeros-set_none cells n v (cells-blank n cells n are.padded (omega arith) (omega (arith, lt, front_long n cells are.padded)) ∙ sym e));
}

-- ---- sums

next_cell : (a : List ℕ) (k : ℕ) → get_or (drop 1 a) k 0 ≡ get_or a (suc k) 0
next_cell a k = get_or_after_one a k 0 ∙ ap (λ (i : ℕ). get_or a i 0) (omega arith)

-- a sum at the first place of the displacement that is not 0
sum-here : (a front d : List ℕ) (k : ℕ) → k < length d → AreZero d k → get_or d k 0 ≢ 0 → length front ≡ k → ((j : ℕ) → j < k → get_or front j 0 ≡ get_or a j 0)
    → sum a d ≡ front ++ (get_or a k 0 + get_or d k 0) ∷ drop (k + 1) d
sum-here a front [] k lt zeros ne long alike = absurd (omega (arith, lt))
sum-here a [] (zero ∷ d) zero lt zeros ne long alike = absurd (ne refl)
sum-here a [] (suc x ∷ d) zero lt zeros ne long alike = refl
sum-here a [] (x ∷ d) (suc k) lt zeros ne long alike = absurd (omega (arith, long))
sum-here a (y ∷ front) (x ∷ d) zero lt zeros ne long alike = absurd (omega (arith, long))
sum-here a (y ∷ front) (suc x ∷ d) (suc k) lt zeros ne long alike = let e : suc x ≡ 0 = zeros 0 (omega arith) in absurd (omega (arith, e))
sum-here a (y ∷ front) (zero ∷ d) (suc k) lt zeros ne long alike =
    let head : get_or a 0 0 ≡ y = sym (alike 0 (omega arith)) in
    let rest = sum-here (drop 1 a) front d k (omega (arith, lt)) (λ j l. zeros (suc j) (omega (arith, l))) ne (omega (arith, long)) (λ j l. alike (suc j) (omega (arith, l)) ∙ sym (next_cell a j)) in
    let next : suc (k + 1) ≡ suc k + 1 = omega arith in
    ap (λ (i : ℕ). i ∷ sum (drop 1 a) d) head ∙ ap (λ (places : List ℕ). y ∷ places) rest
    ∙ ap (λ (i : ℕ). y ∷ (front ++ (i + get_or d k 0) ∷ drop (k + 1) d)) (next_cell a k)
    ∙ ap (λ (i : ℕ). y ∷ (front ++ (get_or a (suc k) 0 + get_or d k 0) ∷ drop i (0 ∷ d))) next

-- the test whether it fits asks of that place alone
fits-here : (a d : List ℕ) (k : ℕ) → k < length d → AreZero d k → get_or d k 0 ≢ 0 → fits a d ≡ ltb (get_or a k 0 + get_or d k 0) (2 ^ 32)
fits-here a [] k lt zeros ne = absurd (omega (arith, lt))
fits-here a (zero ∷ d) zero lt zeros ne = absurd (ne refl)
fits-here a (suc x ∷ d) zero lt zeros ne = refl
fits-here a (suc x ∷ d) (suc k) lt zeros ne = let e : suc x ≡ 0 = zeros 0 (omega arith) in absurd (omega (arith, e))
fits-here a (zero ∷ d) (suc k) lt zeros ne =
    fits-here (drop 1 a) d k (omega (arith, lt)) (λ j l. zeros (suc j) (omega (arith, l))) ne
    ∙ ap (λ (i : ℕ). ltb (i + get_or d k 0) (2 ^ 32)) (next_cell a k)

fits-zero : (a d : List ℕ) → AreZero d (length d) → fits a d ≡ true
fits-zero a [] zeros = refl
fits-zero a (suc x ∷ d) zeros = let e : suc x ≡ 0 = zeros 0 (omega arith) in absurd (omega (arith, e))
fits-zero a (zero ∷ d) zeros = fits-zero (drop 1 a) d (λ j l. zeros (suc j) (omega (arith, l)))

-- what the cells of places say of the places
front-zero : (n : ℕ) (cells : List ℕ) (k : ℕ) → k ≤ n → AreZero cells k → AreZero (take n cells) k
front-zero n cells k le zeros = λ j lt. get_or-take n cells j 0 (omega (arith, lt, le)) ∙ zeros j lt

pub fits-cell : (m : ℕ) (a : List ℕ) (n z : ℕ) (d : List ℕ) → IsPadded m a → AreCells n z d → z ≢ 24 → fits (take m a) (take n d) ≡ ltb (get_or a z 0 + get_or d z 0) (2 ^ 32)
fits-cell m a n z d in_a are some =
    let most = counted-most n z d are in
    let lt : z < 24 = omega (arith, most, some) in
    let within = counted-within n z d are lt in
    let same : get_or (take n d) z 0 ≡ get_or d z 0 = get_or-take n d z 0 within in
    let there : get_or (take m a) z 0 ≡ get_or a z 0 = padded-place m a z in_a lt in
    fits-here (take m a) (take n d) z (omega (arith, within, front_long n d are.padded)) (front-zero n d z (omega (arith, within)) (cells-zero n z d are)) (λ e. cells-filled n z d are lt (sym same ∙ e))
    ∙ ap (λ (i : ℕ). ltb (i + get_or (take n d) z 0) (2 ^ 32)) there
    ∙ ap (λ (i : ℕ). ltb (get_or a z 0 + i) (2 ^ 32)) same

not_below : (x : ℕ) → (x < 2 ^ 32 → ⊥) → ltb x (2 ^ 32) ≡ false
not_below x h = grind (arith, nat_tests)

is_below : (x : ℕ) → x < 2 ^ 32 → ltb x (2 ^ 32) ≡ true
is_below x h = grind (arith, nat_tests)

pub fits-tested : (sum : Option ℕ) (x : ℕ) → SomeIff sum (x < 2 ^ 32) x → is_some sum ≡ ltb x (2 ^ 32)
fits-tested None x h = sym (not_below x h)
fits-tested (Some y) x h = sym (is_below x h.0)

pub fits-none : (a : List ℕ) (n z : ℕ) (d : List ℕ) → AreCells n z d → z ≡ 24 → fits a (take n d) ≡ true
fits-none a n z d are none =
    let few : n ≤ 24 = are.padded.few in
    let long = front_long n d are.padded in
    fits-zero a (take n d) (λ j lt. get_or-take n d j 0 (omega (arith, lt, long)) ∙ cells-zero n z d are j (omega (arith, lt, long, few, none)))

pub adds-fit : (m : ℕ) (a : List ℕ) (n z : ℕ) (d : List ℕ) → IsPadded m a → AreCells n z d → z ≢ 24 → fits (take m a) (take n d) ≡ true → get_or a z 0 + get_or d z 0 < 2 ^ 32
adds-fit m a n z d in_a are some fitting = below (get_or a z 0 + get_or d z 0) (sym (fits-cell m a n z d in_a are some) ∙ fitting)
  where
    below : (x : ℕ) → ltb x (2 ^ 32) ≡ true → x < 2 ^ 32
    below x h = grind (arith, nat_tests)

pub adds-none : (a : List ℕ) (n z : ℕ) (d : List ℕ) → AreCells n z d → z ≡ 24 → EndsWell (take n d) → sum a (take n d) ≡ a
adds-none a n z d are none ends = ap (λ (i : ℕ). sum a (take i d)) (cells-none n z d are (omega (arith, none)) ends)

-- the cells before k are those of a, and those from k on are those of d
pub record Copied (a d cells : List ℕ) (k : ℕ) : Type 0 where
  pub long : length cells ≡ 24
  pub front : (j : ℕ) → j < k → get_or cells j 0 ≡ get_or a j 0
  pub rest : drop k cells ≡ drop k d

pub copied-first : (m y : ℕ) (a : List ℕ) (n z : ℕ) (d : List ℕ) → AreCells m y a → AreCells n z d → Copied a d d (min y z)
copied-first m y a n z d in_a in_d = record {
  long = in_d.padded.long;
  front = λ j lt. cells-zero n z d in_d j (omega (arith, lt)) ∙ sym (cells-zero m y a in_a j (omega (arith, lt)));
  rest = refl;
}

pub copied-more : (a d cells : List ℕ) (k : ℕ) → Copied a d cells k → k < 24 → Copied a d (set cells k (get_or a k 0)) (k + 1)
copied-more a d cells k so_far lt = record {
  long = length-set cells k (get_or a k 0) ∙ so_far.long;
  front = λ j lt_j. elim (cases_lt j k) [
    | inl before ↦ get_or-set_other cells k j (get_or a k 0) 0 (λ e. absurd (omega (arith, before, e))) ∙ so_far.front j before
    | inr past ↦ let at : j ≡ k = omega (arith, past, lt_j) in
        get_or-set_at cells k j (get_or a k 0) 0 at (omega (arith, lt, so_far.long)) ∙ ap (λ (i : ℕ). get_or a i 0) (sym at)
  ];
  rest = drop-set-lt (k + 1) cells k (get_or a k 0) (omega arith) ∙ rest_on cells d k 1 so_far.rest;
}

pub adds-found : (m : ℕ) (a : List ℕ) (n z : ℕ) (d cells : List ℕ) (v : ℕ) → IsPadded m a → AreCells n z d → z ≢ 24 → Copied a d cells z → v ≡ get_or a z 0 + get_or d z 0
    → take n (set cells z v) ≡ sum (take m a) (take n d)
adds-found m a n z d cells v in_a are some so_far is =
    let most = counted-most n z d are in
    let lt : z < 24 = omega (arith, most, some) in
    let within = counted-within n z d are lt in
    let in_cells : z < length cells = omega (arith, lt, so_far.long) in
    let same : get_or (take n d) z 0 ≡ get_or d z 0 = get_or-take n d z 0 within in
    let there : get_or (take m a) z 0 ≡ get_or a z 0 = padded-place m a z in_a lt in
    let value : v ≡ get_or (take m a) z 0 + get_or (take n d) z 0 = omega (arith, is, same, there) in
    let long : length (take z cells) ≡ z = length-take-le z cells (omega (arith, in_cells)) in
    let at : (z + 1) + (n - (z + 1)) ≡ n = omega (arith, within) in
    ap (λ (i : ℕ). take i (set cells z v)) (sym at)
    ∙ front_then_rest cells d z (n - (z + 1)) v in_cells so_far.rest
    ∙ ap (λ (i : ℕ). take z cells ++ v ∷ drop (z + 1) (take i d)) at
    ∙ ap (λ (x : ℕ). take z cells ++ x ∷ drop (z + 1) (take n d)) value
    ∙ sym (sum-here (take m a) (take z cells) (take n d) z (omega (arith, within, front_long n d are.padded)) (front-zero n d z (omega (arith, within)) (cells-zero n z d are)) (λ e. cells-filled n z d are lt (sym same ∙ e)) long
    (λ j l. get_or-take z cells j 0 l ∙ so_far.front j l ∙ sym (padded-place m a j in_a (omega (arith, l, lt)))))

pub adds-cells : (m y : ℕ) (a : List ℕ) (n z : ℕ) (d cells : List ℕ) (v : ℕ) → AreCells m y a → AreCells n z d → z ≢ 24 → Copied a d cells z → v ≡ get_or a z 0 + get_or d z 0
    → AreCells n (min y z) (set cells z v)
adds-cells m y a n z d cells v in_a are some so_far is =
    let most = counted-most n z d are in
    let lt : z < 24 = omega (arith, most, some) in
    let within = counted-within n z d are lt in
    let in_cells : z < length cells = omega (arith, lt, so_far.long) in
    let filled = cells-filled n z d are lt in
    let here : get_or (set cells z v) z 0 ≡ v = get_or-set_same cells z v 0 in_cells in
    let made_long : length (set cells z v) ≡ 24 = length-set cells z v ∙ so_far.long in
    let before : (j : ℕ) → j < z → get_or (set cells z v) j 0 ≡ get_or a j 0 = λ j l. get_or-set_other cells z j v 0 (λ e. absurd (omega (arith, l, e))) ∙ so_far.front j l in
    let front : AreZero (set cells z v) (min y z) = λ j l. before j (omega (arith, l)) ∙ cells-zero m y a in_a j (omega (arith, l)) in
    record {
      padded = rest-padded n d cells z v are.padded so_far.long so_far.rest within;
      zeros = sym (zeros-found (set cells z v) (min y z) (omega (arith, made_long, lt)) front (elim (cases_lt y z) [
        | inl less ↦
            let at : min y z ≡ y = omega (arith, less) in
            let value : get_or (set cells z v) (min y z) 0 ≡ get_or a y 0 = ap (λ (i : ℕ). get_or (set cells z v) i 0) at ∙ before y less in
            λ e. cells-filled m y a in_a (omega (arith, less, lt)) (sym value ∙ e)
        | inr le ↦
            let at : min y z ≡ z = omega (arith, le) in
            let value : get_or (set cells z v) (min y z) 0 ≡ v = ap (λ (i : ℕ). get_or (set cells z v) i 0) at ∙ here in
            λ e. filled (omega (arith, is, value, e))
      ]));
    }

pub ruleset adding = (padded-place, adds-none, adds-fit, adds-found, adds-cells, copied-first, copied-more)

-- ---- differences

-- up to k the lists have the same places, a missing one being 0
abbrev AreAlike : List ℕ → List ℕ → ℕ → Type 0
AreAlike b a k = (j : ℕ) → j < k → get_or b j 0 ≡ get_or a j 0

alike_tail : (y x : ℕ) (b a : List ℕ) (k : ℕ) → AreAlike (y ∷ b) (x ∷ a) (suc k) → AreAlike b a k
alike_tail y x b a k h = λ j lt. h (suc j) (omega (arith, lt))

alike_none : (y : ℕ) (b : List ℕ) (k : ℕ) → AreAlike (y ∷ b) [] (suc k) → AreAlike b [] k
alike_none y b k h = λ j lt. h (suc j) (omega (arith, lt))

up_to-at : (b a : List ℕ) (k : ℕ) → k < length b → AreAlike b a k → IsUpTo a b → get_or a k 0 ≤ get_or b k 0
up_to-at [] a k lt alike up_to = absurd (omega (arith, lt))
up_to-at (y ∷ b) [] k lt alike up_to = omega arith
up_to-at (y ∷ b) (x ∷ a) zero lt alike up_to = IsUpTo-head x y a b up_to
up_to-at (y ∷ b) (x ∷ a) (suc k) lt alike up_to =
    let heads : x ≡ y = sym (alike 0 (omega arith)) in
    up_to-at b a k (omega (arith, lt)) (alike_tail y x b a k alike) (IsUpTo-rest x y a b heads up_to)

zeros_then : (b : List ℕ) (k : ℕ) → k < length b → AreAlike b [] k → b ≡ replicate k 0 ++ get_or b k 0 ∷ drop (k + 1) b
zeros_then [] k lt alike = absurd (omega (arith, lt))
zeros_then (y ∷ b) zero lt alike = refl
zeros_then (y ∷ b) (suc k) lt alike =
    let head : y ≡ 0 = alike 0 (omega arith) in
    let next : suc (k + 1) ≡ suc k + 1 = omega arith in
    ap (λ (n : ℕ). n ∷ b) head ∙ ap (λ (r : List ℕ). 0 ∷ r) (zeros_then b k (omega (arith, lt)) (alike_none y b k alike))
    ∙ ap (λ (n : ℕ). 0 ∷ (replicate k 0 ++ get_or b k 0 ∷ drop n (y ∷ b))) next

difference-here : (b a : List ℕ) (k : ℕ) → k < length b → AreAlike b a k → get_or a k 0 ≢ get_or b k 0 → IsUpTo a b
    → difference b a ≡ replicate k 0 ++ (get_or b k 0 - get_or a k 0) ∷ drop (k + 1) b
difference-here [] a k lt alike apart up_to = absurd (omega (arith, lt))
difference-here (y ∷ b) [] k lt alike apart up_to =
    let whole : get_or (y ∷ b) k 0 ≡ get_or (y ∷ b) k 0 - 0 = omega arith in
    zeros_then (y ∷ b) k lt alike ∙ ap (λ (n : ℕ). replicate k 0 ++ n ∷ drop (k + 1) (y ∷ b)) whole
difference-here (y ∷ b) (x ∷ a) zero lt alike apart up_to = difference-apart y x b a apart
difference-here (y ∷ b) (x ∷ a) (suc k) lt alike apart up_to =
    let heads : x ≡ y = sym (alike 0 (omega arith)) in
    let next : suc (k + 1) ≡ suc k + 1 = omega arith in
    let below = difference-here b a k (omega (arith, lt)) (alike_tail y x b a k alike) apart (IsUpTo-rest x y a b heads up_to) in
    difference-same y x b a heads ∙ after_zero-filled (difference b a) (replicate k 0) (get_or b k 0 - get_or a k 0) (drop (k + 1) b) below ∙ ap (λ (places : List ℕ). 0 ∷ places) below
    ∙ ap (λ (n : ℕ). 0 ∷ (replicate k 0 ++ (get_or b k 0 - get_or a k 0) ∷ drop n (y ∷ b))) next

difference-none : (b a : List ℕ) → AreAlike b a (length b) → EndsWell b → difference b a ≡ []
difference-none [] [] alike ends = refl
difference-none [] (x ∷ a) alike ends = refl
difference-none (y ∷ b) [] alike ends =
    let none : length (y ∷ b) ≡ 0 = ends (alike (length (y ∷ b) - 1) (omega arith)) in
    absurd (omega (arith, none))
difference-none (y ∷ b) (x ∷ a) alike ends =
    let heads : x ≡ y = sym (alike 0 (omega arith)) in
    difference-same y x b a heads ∙ ap after_zero (difference-none b a (alike_tail y x b a (length b) alike) (EndsWell-tail y b ends))

-- the cells before k are 0 and those from k on are those of b, of which all before k are those of a
pub record LeadsSoFar (n : ℕ) (b : List ℕ) (m : ℕ) (a cells : List ℕ) (k : ℕ) : Type 0 where
  pub long : length cells ≡ 24
  pub front : take k cells ≡ replicate k 0
  pub rest : drop k cells ≡ drop k b
  pub alike : (j : ℕ) → j < k → get_or (take n b) j 0 ≡ get_or (take m a) j 0

front_of_zeros : (cells : List ℕ) (k : ℕ) → k ≤ length cells → AreZero cells k → take k cells ≡ replicate k 0
front_of_zeros cells zero le zeros = refl
front_of_zeros [] (suc k) le zeros = absurd (omega (arith, le))
front_of_zeros (x ∷ cells) (suc k) le zeros =
    let head : x ≡ 0 = zeros 0 (omega arith) in
    ap (λ (i : ℕ). i ∷ take k cells) head ∙ ap (λ (r : List ℕ). 0 ∷ r) (front_of_zeros cells k (omega (arith, le)) (λ j l. zeros (suc j) (omega (arith, l))))

-- places up to others are 0 where the others begin with zeros
zero-below : (b a : List ℕ) (k : ℕ) → k ≤ length b → AreZero b k → IsUpTo a b → AreAlike b a k
zero-below b a k le zeros up_to = below b a k k le (omega arith) zeros up_to
  where
    below : (b a : List ℕ) (k j : ℕ) → k ≤ length b → j ≤ k → AreZero b k → IsUpTo a b → AreAlike b a j
    below b a k zero le in_k zeros up_to = λ i lt. absurd (omega (arith, lt))
    below b a k (suc j) le in_k zeros up_to =
        let rest = below b a k j le (omega (arith, in_k)) zeros up_to in
        let most = up_to-at b a j (omega (arith, le, in_k)) rest up_to in
        let none : get_or b j 0 ≡ 0 = zeros j (omega (arith, in_k)) in
        λ i lt. elim (cases_lt i j) [
          | inl before ↦ rest i before
          | inr past ↦ let at : j ≡ i = omega (arith, past, lt) in
              let here : get_or b j 0 ≡ get_or a j 0 = omega (arith, most, none) in
              ap (λ (x : ℕ). get_or b x 0) (sym at) ∙ here ∙ ap (λ (x : ℕ). get_or a x 0) at
        ]

pub leads-first : (n z : ℕ) (b : List ℕ) (m : ℕ) (a : List ℕ) → AreCells n z b → EndsWell (take n b) → IsUpTo (take m a) (take n b) → LeadsSoFar n b m a b z
leads-first n z b m a are ends up_to =
    let most = counted-most n z b are in
    let zeros = cells-zero n z b are in
    record {
      long = are.padded.long;
      front = front_of_zeros b z (omega (arith, most, are.padded.long)) zeros;
      rest = refl;
      alike = elim (cases_lt z 24) [
        | inl lt ↦
            let within = counted-within n z b are lt in
            zero-below (take n b) (take m a) z (omega (arith, within, front_long n b are.padded)) (front-zero n b z (omega (arith, within)) zeros) up_to
        | inr ge ↦
            let none = cells-none n z b are ge ends in
            let nothing : take n b ≡ [] = ap (λ (i : ℕ). take i b) none in
            let neither : take m a ≡ [] = up_to_none (take m a) (subst (IsUpTo (take m a)) nothing up_to) in
            λ j lt. ap (λ (r : List ℕ). get_or r j 0) (nothing ∙ sym neither)
      ];
    }

pub leads-at_most : (n : ℕ) (b : List ℕ) (m : ℕ) (a cells : List ℕ) (k : ℕ) → IsPadded n b → IsPadded m a → LeadsSoFar n b m a cells k → k < n → IsUpTo (take m a) (take n b) → get_or a k 0 ≤ get_or b k 0
leads-at_most n b m a cells k in_b in_a so_far lt up_to =
    let few : n ≤ 24 = in_b.few in
    let same : get_or (take n b) k 0 ≡ get_or b k 0 = get_or-take n b k 0 lt in
    let there : get_or (take m a) k 0 ≡ get_or a k 0 = padded-place m a k in_a (omega (arith, lt, few)) in
    let most : get_or (take m a) k 0 ≤ get_or (take n b) k 0 = up_to-at (take n b) (take m a) k (omega (arith, lt, front_long n b in_b)) so_far.alike up_to in
    omega (arith, same, there, most)

one_more : (k y : ℕ) → replicate k y ++ y ∷ [] ≡ replicate (k + 1) y
one_more zero y = refl
one_more (suc k) y = let next : suc (k + 1) ≡ suc k + 1 = omega arith in ap (λ (r : List ℕ). y ∷ r) (one_more k y) ∙ ap (λ (n : ℕ). replicate n y) next

pub leads-more : (n : ℕ) (b : List ℕ) (m : ℕ) (a cells : List ℕ) (k v : ℕ) → IsPadded n b → IsPadded m a → LeadsSoFar n b m a cells k → k < n → get_or a k 0 ≤ get_or b k 0 → v ≡ get_or b k 0 - get_or a k 0 → v ≡ 0
    → LeadsSoFar n b m a (set cells k v) (k + 1)
leads-more n b m a cells k v in_b in_a so_far lt most is e =
    let few : n ≤ 24 = in_b.few in
    let in_cells : k < length cells = omega (arith, lt, few, so_far.long) in
    let same : get_or (take n b) k 0 ≡ get_or b k 0 = get_or-take n b k 0 lt in
    let there : get_or (take m a) k 0 ≡ get_or a k 0 = padded-place m a k in_a (omega (arith, lt, few)) in
    let here : get_or (take n b) k 0 ≡ get_or (take m a) k 0 = omega (arith, same, there, most, is, e) in
    record {
      long = length-set cells k v ∙ so_far.long;
      front = take_more_set cells k v in_cells ∙ ap (λ (front : List ℕ). front ++ v ∷ []) so_far.front ∙ ap (λ (x : ℕ). replicate k 0 ++ x ∷ []) e ∙ one_more k 0;
      rest = drop-set-lt (k + 1) cells k v (omega arith) ∙ rest_on cells b k 1 so_far.rest;
      alike = λ j lt_j. elim (cases_lt j k) [
        | inl before ↦ so_far.alike j before
        | inr past ↦ let at : k ≡ j = omega (arith, past, lt_j) in
            ap (λ (i : ℕ). get_or (take n b) i 0) (sym at) ∙ here ∙ ap (λ (i : ℕ). get_or (take m a) i 0) at
      ];
    }

pub leads-found : (n : ℕ) (b : List ℕ) (m : ℕ) (a cells : List ℕ) (k v : ℕ) → IsPadded n b → IsPadded m a → LeadsSoFar n b m a cells k → k < n → IsUpTo (take m a) (take n b) → v ≡ get_or b k 0 - get_or a k 0 → v ≢ 0
    → take n (set cells k v) ≡ difference (take n b) (take m a)
leads-found n b m a cells k v in_b in_a so_far lt up_to is ne =
    let few : n ≤ 24 = in_b.few in
    let in_cells : k < length cells = omega (arith, lt, few, so_far.long) in
    let same : get_or (take n b) k 0 ≡ get_or b k 0 = get_or-take n b k 0 lt in
    let there : get_or (take m a) k 0 ≡ get_or a k 0 = padded-place m a k in_a (omega (arith, lt, few)) in
    let value : v ≡ get_or (take n b) k 0 - get_or (take m a) k 0 = omega (arith, is, same, there) in
    let apart : get_or (take m a) k 0 ≢ get_or (take n b) k 0 = λ z. ne (omega (arith, is, same, there, z)) in
    let at : (k + 1) + (n - (k + 1)) ≡ n = omega (arith, lt) in
    ap (λ (i : ℕ). take i (set cells k v)) (sym at)
    ∙ front_then_rest cells b k (n - (k + 1)) v in_cells so_far.rest
    ∙ ap (λ (i : ℕ). take k cells ++ v ∷ drop (k + 1) (take i b)) at
    ∙ ap (λ (front : List ℕ). front ++ v ∷ drop (k + 1) (take n b)) so_far.front
    ∙ ap (λ (x : ℕ). replicate k 0 ++ x ∷ drop (k + 1) (take n b)) value
    ∙ sym (difference-here (take n b) (take m a) k (omega (arith, lt, front_long n b in_b)) so_far.alike apart up_to)

pub leads-none : (n : ℕ) (b : List ℕ) (m : ℕ) (a cells : List ℕ) (k : ℕ) → IsPadded n b → LeadsSoFar n b m a cells k → n ≤ k → EndsWell (take n b) → difference (take n b) (take m a) ≡ []
leads-none n b m a cells k in_b so_far ge ends =
    difference-none (take n b) (take m a) (λ j lt. so_far.alike j (omega (arith, lt, ge, front_long n b in_b))) ends

pub leads-cells : (n : ℕ) (b : List ℕ) (m : ℕ) (a cells : List ℕ) (k v : ℕ) → IsPadded n b → LeadsSoFar n b m a cells k → k < n → v ≢ 0 → AreCells n k (set cells k v)
leads-cells n b m a cells k v in_b so_far lt ne =
    let few : n ≤ 24 = in_b.few in
    record {
      padded = rest-padded n b cells k v in_b so_far.long so_far.rest lt;
      zeros = sym (zeros-placed cells k v (omega (arith, lt, few, so_far.long)) so_far.front ne);
    }

pub ruleset leading = (leads-first, leads-at_most, leads-more, leads-found, leads-none, leads-cells)

-- ---- order

nat_cmp-less : (x y : ℕ) → x < y → nat_cmp x y ≡ Less
nat_cmp-less x y lt = grind (arith, nat_tests)

nat_cmp-greater : (x y : ℕ) → y < x → nat_cmp x y ≡ Greater
nat_cmp-greater x y lt = grind (arith, nat_tests)

lt-ltb : (x y : ℕ) → x < y → ltb x y ≡ true
lt-ltb x y h = grind (arith, nat_tests)

ge-ltb : (x y : ℕ) → y ≤ x → ltb x y ≡ false
ge-ltb x y h = grind (arith, nat_tests)

heads_apart : (x y : ℕ) (a b : List ℕ) → x ≢ y → comes_before (x ∷ a) (y ∷ b) ≡ ltb x y
heads_apart x y a b ne = elim (cases_lt x y) [
  | inl less ↦ ap (λ (o : Ordering). is_lt (ordering_then o (slice_cmp nat_cmp a b))) (nat_cmp-less x y less) ∙ sym (lt-ltb x y less)
  | inr le ↦ let more : y < x = omega (arith, le, ne) in
      ap (λ (o : Ordering). is_lt (ordering_then o (slice_cmp nat_cmp a b))) (nat_cmp-greater x y more) ∙ sym (ge-ltb x y le)
]

pub order-same : (m : ℕ) (a : List ℕ) (n : ℕ) (b : List ℕ) (k : ℕ) → IsPadded m a → IsPadded n b → k < min m n → get_or a k 0 ≡ get_or b k 0
    → comes_before (drop (k + 1) (take m a)) (drop (k + 1) (take n b)) ≡ comes_before (drop k (take m a)) (drop k (take n b))
order-same m a n b k in_a in_b lt e =
    let in_first : k < length (take m a) = omega (arith, lt, front_long m a in_a) in
    let in_second : k < length (take n b) = omega (arith, lt, front_long n b in_b) in
    let heads : get_or (take m a) k 0 ≡ get_or (take n b) k 0 = get_or-take m a k 0 (omega (arith, lt)) ∙ e ∙ sym (get_or-take n b k 0 (omega (arith, lt))) in
    rw (drop_more (take m a) k 0 in_first, drop_more (take n b) k 0 in_second)
    (ap is_lt (sym (slice_cmp-same (get_or (take m a) k 0) (get_or (take n b) k 0) (drop (k + 1) (take m a)) (drop (k + 1) (take n b)) heads)))

pub order-apart : (m : ℕ) (a : List ℕ) (n : ℕ) (b : List ℕ) (k : ℕ) → IsPadded m a → IsPadded n b → k < min m n → get_or a k 0 ≢ get_or b k 0
    → comes_before (drop k (take m a)) (drop k (take n b)) ≡ ltb (get_or a k 0) (get_or b k 0)
order-apart m a n b k in_a in_b lt ne =
    let in_first : k < length (take m a) = omega (arith, lt, front_long m a in_a) in
    let in_second : k < length (take n b) = omega (arith, lt, front_long n b in_b) in
    rw (drop_more (take m a) k 0 in_first, drop_more (take n b) k 0 in_second, get_or-take m a k 0 (omega (arith, lt)), get_or-take n b k 0 (omega (arith, lt)))
    (heads_apart (get_or a k 0) (get_or b k 0) (drop (k + 1) (take m a)) (drop (k + 1) (take n b)) ne)

ends_first : (xs ys : List ℕ) → length ys ≡ 0 → comes_before xs ys ≡ false
ends_first [] [] e = refl
ends_first (x ∷ xs) [] e = refl
ends_first xs (y ∷ ys) e = absurd (omega (arith, e))

goes_on : (xs ys : List ℕ) → length xs ≡ 0 → 0 < length ys → comes_before xs ys ≡ true
goes_on [] [] e lt = absurd (omega (arith, lt))
goes_on [] (y ∷ ys) e lt = refl
goes_on (x ∷ xs) ys e lt = absurd (omega (arith, e))

pub order-end : (m : ℕ) (a : List ℕ) (n : ℕ) (b : List ℕ) (k : ℕ) → IsPadded m a → IsPadded n b → k ≡ min m n → comes_before (drop k (take m a)) (drop k (take n b)) ≡ ltb m n
order-end m a n b k in_a in_b e =
    let first : length (drop k (take m a)) ≡ m - k = length-drop k (take m a) ∙ ap (λ (i : ℕ). i - k) (front_long m a in_a) in
    let second : length (drop k (take n b)) ≡ n - k = length-drop k (take n b) ∙ ap (λ (i : ℕ). i - k) (front_long n b in_b) in
    elim (cases_lt m n) [
      | inl less ↦ goes_on (drop k (take m a)) (drop k (take n b)) (omega (arith, first, e, less)) (omega (arith, second, e, less)) ∙ sym (lt-ltb m n less)
      | inr le ↦ ends_first (drop k (take m a)) (drop k (take n b)) (omega (arith, second, e, le)) ∙ sym (ge-ltb m n le)
    ]

-- what comes in front of the first place that is not 0 in either is the same
pub order-skip : (m y : ℕ) (a : List ℕ) (n z : ℕ) (b : List ℕ) (k : ℕ) → AreCells m y a → AreCells n z b → k ≤ min y z → k ≤ min m n
    → comes_before (drop k (take m a)) (drop k (take n b)) ≡ comes_before (take m a) (take n b)
order-skip m y a n z b zero in_a in_b zeros both = refl
order-skip m y a n z b (suc k) in_a in_b zeros both =
    let next : suc k ≡ k + 1 = omega arith in
    let same : get_or a k 0 ≡ get_or b k 0 = cells-zero m y a in_a k (omega (arith, zeros)) ∙ sym (cells-zero n z b in_b k (omega (arith, zeros))) in
    ap (λ (i : ℕ). comes_before (drop i (take m a)) (drop i (take n b))) next
    ∙ order-same m a n b k in_a.padded in_b.padded (omega (arith, both)) same
    ∙ order-skip m y a n z b k in_a in_b (omega (arith, zeros)) (omega (arith, both))

-- what begins with more zeros comes before
pub order-leads : (m y : ℕ) (a : List ℕ) (n z : ℕ) (b : List ℕ) → AreCells m y a → AreCells n z b → y ≢ z → comes_before (take m a) (take n b) ≡ ltb z y
order-leads m y a n z b in_a in_b ne =
    let most_a = counted-most m y a in_a in
    let most_b = counted-most n z b in_b in
    elim (cases_lt z y) [
      | inl less ↦
          let within = counted-within n z b in_b (omega (arith, less, most_a)) in
          elim (cases_lt z m) [
            | inl in_both ↦
                let here : get_or a z 0 ≡ 0 = cells-zero m y a in_a z less in
                let there = cells-filled n z b in_b (omega (arith, less, most_a)) in
                sym (order-skip m y a n z b z in_a in_b (omega (arith, less)) (omega (arith, in_both, within)))
                ∙ order-apart m a n b z in_a.padded in_b.padded (omega (arith, in_both, within)) (λ e. there (sym e ∙ here))
                ∙ lt-ltb (get_or a z 0) (get_or b z 0) (above (get_or a z 0) (get_or b z 0) here there) ∙ sym (lt-ltb z y less)
            | inr ends ↦
                sym (order-skip m y a n z b m in_a in_b (omega (arith, less, ends)) (omega (arith, within, ends)))
                ∙ order-end m a n b m in_a.padded in_b.padded (omega (arith, within, ends)) ∙ lt-ltb m n (omega (arith, within, ends)) ∙ sym (lt-ltb z y less)
          ]
      | inr le ↦
          let less : y < z = omega (arith, le, ne) in
          let within = counted-within m y a in_a (omega (arith, less, most_b)) in
          elim (cases_lt y n) [
            | inl in_both ↦
                let here : get_or b y 0 ≡ 0 = cells-zero n z b in_b y less in
                let there = cells-filled m y a in_a (omega (arith, less, most_b)) in
                sym (order-skip m y a n z b y in_a in_b (omega (arith, less)) (omega (arith, in_both, within)))
                ∙ order-apart m a n b y in_a.padded in_b.padded (omega (arith, in_both, within)) (λ e. there (e ∙ here))
                ∙ ge-ltb (get_or a y 0) (get_or b y 0) (omega (arith, here)) ∙ sym (ge-ltb z y le)
            | inr ends ↦
                sym (order-skip m y a n z b n in_a in_b (omega (arith, less, ends)) (omega (arith, within, ends)))
                ∙ order-end m a n b n in_a.padded in_b.padded (omega (arith, within, ends)) ∙ ge-ltb m n (omega (arith, within, ends)) ∙ sym (ge-ltb z y le)
          ]
    ]
  where
    above : (x y : ℕ) → x ≡ 0 → y ≢ 0 → x < y
    above x y e ne = omega (arith, e, ne)

pub ruleset ordering = (order-same, order-apart, order-end, order-skip, order-leads)
