-- The zeros before the first cell that is not 0.
use Rattle.std.proofs.Common.{◌≡◌, ◌≢◌, ℕ, zero, suc, min, ◌+◌, ◌-◌, ◌<◌, ◌≤◌, List, [], ◌∷◌, length, get_or, take, drop, replicate, refl, arith, ap, ◌∙◌, sym, length-take-le, inl, inr}
use Rattle.std.proofs.Math.ListN.{set}
use Rattle.std.proofs.lemmas.List.{get_or-drop, get_or-replicate, get_or-take, set-get_or}
use Rattle.std.proofs.lemmas.Bool.{cases_lt}
use Rattle.tumbler.specs.Places.{EndsWell}
use Rattle.tumbler.specs.Padded.{IsPadded, AreCells, leading_zeros}

-- all cells before k are 0
abbrev pub AreZero : List ℕ → ℕ → Type 0
AreZero cells k = (j : ℕ) → j < k → get_or cells j 0 ≡ 0

pub zeros-in_front : (cells : List ℕ) → AreZero cells (leading_zeros cells)
zeros-in_front [] = λ j lt. absurd (omega (arith, lt))
zeros-in_front (suc x ∷ cells) = λ j lt. absurd (omega (arith, lt))
zeros-in_front (zero ∷ cells) = more cells (zeros-in_front cells)
  where
    more : (cells : List ℕ) → AreZero cells (leading_zeros cells) → AreZero (0 ∷ cells) (suc (leading_zeros cells))
    more cells rest zero lt = refl
    more cells rest (suc j) lt = rest j (omega (arith, lt))

pub zeros-within : (cells : List ℕ) → leading_zeros cells ≤ length cells
zeros-within [] = omega arith
zeros-within (suc x ∷ cells) = omega arith
zeros-within (zero ∷ cells) = let rest = zeros-within cells in omega (arith, rest)

pub zeros-end : (cells : List ℕ) → leading_zeros cells < length cells → get_or cells (leading_zeros cells) 0 ≢ 0
zeros-end [] lt = absurd (omega (arith, lt))
zeros-end (suc x ∷ cells) lt = λ e. absurd (omega (arith, e))
zeros-end (zero ∷ cells) lt = zeros-end cells (omega (arith, lt))

pub zeros-found : (cells : List ℕ) (k : ℕ) → k < length cells → AreZero cells k → get_or cells k 0 ≢ 0 → leading_zeros cells ≡ k
zeros-found [] k lt front ne = absurd (omega (arith, lt))
zeros-found (zero ∷ cells) zero lt front ne = absurd (ne refl)
zeros-found (zero ∷ cells) (suc k) lt front ne = ap suc (zeros-found cells k (omega (arith, lt)) (λ j l. front (suc j) (omega (arith, l))) ne)
zeros-found (suc x ∷ cells) zero lt front ne = refl
zeros-found (suc x ∷ cells) (suc k) lt front ne = let e : suc x ≡ 0 = front 0 (omega arith) in absurd (omega (arith, e))

pub zeros-set_some : (cells : List ℕ) (k v : ℕ) → k < length cells → v ≢ 0 → leading_zeros (set cells k v) ≡ min (leading_zeros cells) k
zeros-set_some [] k v lt ne = absurd (omega (arith, lt))
zeros-set_some (x ∷ cells) zero zero lt ne = absurd (ne refl)
zeros-set_some (x ∷ cells) zero (suc v) lt ne = omega arith
zeros-set_some (suc x ∷ cells) (suc k) v lt ne = omega arith
zeros-set_some (zero ∷ cells) (suc k) v lt ne = let rest = zeros-set_some cells k v (omega (arith, lt)) ne in omega (arith, rest)

-- a cell that is set to what it is
pub set-same : (cells : List ℕ) (k v : ℕ) → get_or cells k 0 ≡ v → set cells k v ≡ cells
set-same cells k v e = ap (set cells k) (sym e) ∙ set-get_or cells k 0

pub zeros-set_none : (cells : List ℕ) (k v : ℕ) → get_or cells k 0 ≡ v → leading_zeros (set cells k v) ≡ leading_zeros cells
zeros-set_none cells k v e = ap leading_zeros (set-same cells k v e)

-- cells that are 0 before k, of which that at k becomes one that is not
pub zeros-placed : (cells : List ℕ) (k v : ℕ) → k < length cells → take k cells ≡ replicate k 0 → v ≢ 0 → leading_zeros (set cells k v) ≡ k
zeros-placed [] k v lt front ne = absurd (omega (arith, lt))
zeros-placed (x ∷ cells) zero zero lt front ne = absurd (ne refl)
zeros-placed (x ∷ cells) zero (suc v) lt front ne = refl
zeros-placed (zero ∷ cells) (suc k) v lt front ne = let rest : take k cells ≡ replicate k 0 = cc in ap suc (zeros-placed cells k v (omega (arith, lt)) rest ne)
zeros-placed (suc x ∷ cells) (suc k) v lt front ne = absurd (let e : suc x ≡ 0 = cc in omega (arith, e))

-- ---- cells of places

pub cells-zero : (n counted : ℕ) (cells : List ℕ) → AreCells n counted cells → AreZero cells counted
cells-zero n counted cells are = λ j lt. zeros-in_front cells j (omega (arith, lt, are.zeros))

-- behind the places the cells are 0
pub cells-blank : (n : ℕ) (cells : List ℕ) (k : ℕ) → IsPadded n cells → n ≤ k → k < 24 → get_or cells k 0 ≡ 0
cells-blank n cells k padded behind lt =
    let at : n + (k - n) ≡ k = omega (arith, behind) in
    ap (λ (i : ℕ). get_or cells i 0) (sym at) ∙ sym (get_or-drop n cells (k - n) 0)
    ∙ ap (λ (r : List ℕ). get_or r (k - n) 0) padded.zeros ∙ get_or-replicate (24 - n) (k - n) 0 0 (omega (arith, behind, lt))

pub cells-filled : (n counted : ℕ) (cells : List ℕ) → AreCells n counted cells → counted < 24 → get_or cells counted 0 ≢ 0
cells-filled n counted cells are lt = λ e. zeros-end cells (omega (arith, lt, are.zeros, are.padded.long)) (ap (λ (i : ℕ). get_or cells i 0) (sym are.zeros) ∙ e)

-- the first cell that is not 0 is a place
pub counted-within : (n counted : ℕ) (cells : List ℕ) → AreCells n counted cells → counted < 24 → counted < n
counted-within n counted cells are lt = elim (cases_lt counted n) [
  | inl within ↦ within
  | inr behind ↦ absurd (cells-filled n counted cells are lt (cells-blank n cells counted are.padded behind lt))
]

pub counted-most : (n counted : ℕ) (cells : List ℕ) → AreCells n counted cells → counted ≤ 24
counted-most n counted cells are = let within = zeros-within cells in omega (arith, within, are.zeros, are.padded.long)

-- there is no place, where the last one is not 0 and all are
pub no_places : (n : ℕ) (cells : List ℕ) (k : ℕ) → IsPadded n cells → k ≤ n → n ≤ k → AreZero cells k → EndsWell (take n cells) → n ≡ 0
no_places zero cells k padded le ge zeros ends = refl
no_places (suc n) cells k padded le ge zeros ends =
    let long : length (take (suc n) cells) ≡ suc n = length-take-le (suc n) cells (omega (arith, padded.few, padded.long)) in
    let end : length (take (suc n) cells) - 1 ≡ n = omega (arith, long) in
    let last : get_or (take (suc n) cells) n 0 ≡ 0 = get_or-take (suc n) cells n 0 (omega arith) ∙ zeros n (omega (arith, ge)) in
    let none : length (take (suc n) cells) ≡ 0 = ends (ap (λ (i : ℕ). get_or (take (suc n) cells) i 0) end ∙ last) in
    absurd (omega (arith, none, long))

pub cells-none : (n counted : ℕ) (cells : List ℕ) → AreCells n counted cells → 24 ≤ counted → EndsWell (take n cells) → n ≡ 0
cells-none n counted cells are ge ends =
    let few : n ≤ 24 = are.padded.few in
    no_places n cells n are.padded (omega arith) (omega arith) (λ j lt. cells-zero n counted cells are j (omega (arith, lt, few, ge))) ends

-- where some cell is not 0, the first such one is there
pub cells-at : (n counted : ℕ) (cells : List ℕ) → AreCells n counted cells → counted ≢ 24 → counted < 24
cells-at n counted cells are some = let most = counted-most n counted cells are in omega (arith, most, some)
