-- Places in an array of 24, with zeros behind them. Only private contracts cite this.
use Rattle.std.specs.Prelude.{◌≡◌, ℕ, zero, suc, ◌-◌, ◌≤◌, List, [], ◌∷◌, ◌++◌, length, take, drop, replicate}
use Rattle.std.proofs.Common.{sym, ap, ◌∙◌, arith, take-append-drop, length-take-le}

-- the first n of the cells are places, and the others 0
pub record IsPadded (n : ℕ) (cells : List ℕ) : Type 0 where
  pub few : n ≤ 24
  pub long : length cells ≡ 24
  pub zeros : drop n cells ≡ replicate (24 - n) 0

-- the places and the zeros behind them are all cells
pub refilled : (n : ℕ) (cells : List ℕ) → IsPadded n cells
    → (take n cells ++ replicate (24 - length (take n cells)) 0 ≡ cells) × (length (take n cells) ≡ n)
refilled n cells padded =
    let few : n ≤ length cells = omega (arith, padded.few, padded.long) in
    let len : length (take n cells) ≡ n = length-take-le n cells few in
    (ap (λ (k : ℕ). take n cells ++ replicate (24 - k) 0) len ∙ ap (λ (r : List ℕ). take n cells ++ r) (sym padded.zeros) ∙ take-append-drop n cells, len)

-- how many zeros there are before the first cell that is not 0: all cells, where there is none
abbrev pub leading_zeros : List ℕ → ℕ
leading_zeros [] = 0
leading_zeros (zero ∷ cells) = suc (leading_zeros cells)
leading_zeros (suc x ∷ cells) = 0

-- the first n of the cells are places, the others 0, and the zeros in front are counted
pub record AreCells (n counted : ℕ) (cells : List ℕ) : Type 0 where
  pub padded : IsPadded n cells
  pub zeros : counted ≡ leading_zeros cells

pub recounted : (n counted : ℕ) (cells : List ℕ) → AreCells n counted cells → leading_zeros (take n cells ++ replicate (24 - length (take n cells)) 0) ≡ counted
recounted n counted cells are = ap leading_zeros (refilled n cells are.padded).0 ∙ sym are.zeros
