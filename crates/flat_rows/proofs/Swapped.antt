-- The five parts of the rows once two blocks have changed places.
use Rattle.std.proofs.Common.{◌≡◌, ℕ, ◌+◌, ◌-◌, List, [], ◌∷◌, ◌++◌, map, not, ap, refl, arith}
use Rattle.std.specs.Prelude.{filter}
use Rattle.world_rules.specs.declared.rows.Row.{Row}
use Rattle.world_rules.specs.declared.cuts.Cuts.{Cuts}
use Rattle.world_rules.specs.Edits.{up_by, down_by, moves_up, block, rows_swapped}

only_down : (k : ℕ) (row : Row) → down_by k (up_by 0 row) ≡ down_by k row
only_down k row = ap (λ (n : ℕ). record row { n = n }) (let same : (row.n + 0) - k ≡ row.n - k = omega arith in same)

only_up : (k : ℕ) (row : Row) → down_by 0 (up_by k row) ≡ up_by k row
only_up k row = ap (λ (n : ℕ). record row { n = n }) (let same : (row.n + k) - 0 ≡ row.n + k = omega arith in same)

unmoved : (row : Row) → up_by 0 row ≡ row
unmoved row = ap (λ (n : ℕ). record row { n = n }) (let same : row.n + 0 ≡ row.n = omega arith in same)

-- rows that only move down, that only move up, and that do not move
map_down : (k : ℕ) (rows : List Row) → map (λ (row : Row). down_by k (up_by 0 row)) rows ≡ map (down_by k) rows
map_down k rows = λ i. map (λ (row : Row). only_down k row i) rows

map_up : (k : ℕ) (rows : List Row) → map (λ (row : Row). down_by 0 (up_by k row)) rows ≡ map (up_by k) rows
map_up k rows = λ i. map (λ (row : Row). only_up k row i) rows

map_none : (rows : List Row) → map (up_by 0) rows ≡ rows
map_none [] = refl
map_none (row ∷ rows) = rw (map_none rows) (ap (λ (first : Row). first ∷ rows) (unmoved row))

pub all_parts : (rows : List Row) (document : List ℕ) (cuts : Cuts) (up down first_length second_length : ℕ)
    → first_length ≡ cuts.second - cuts.first → second_length ≡ cuts.fourth - cuts.third → up ≡ cuts.fourth - cuts.second → down ≡ cuts.third - cuts.first
    → filter (λ row. not (moves_up document cuts.first row)) rows
    ++ map (λ (row : Row). down_by down (up_by 0 row)) (block rows document cuts.third cuts.fourth)
    ++ map (λ (row : Row). down_by first_length (up_by second_length row)) (block rows document cuts.second cuts.third)
    ++ map (λ (row : Row). down_by 0 (up_by up row)) (block rows document cuts.first cuts.second)
    ++ map (up_by 0) (filter (moves_up document cuts.fourth) rows)
    ≡ rows_swapped rows document cuts
all_parts rows document cuts up down first_length second_length e f g h =
    rw (
      e,
      f,
      g,
      h,
      map_down (cuts.third - cuts.first) (block rows document cuts.third cuts.fourth),
      map_up (cuts.fourth - cuts.second) (block rows document cuts.first cuts.second),
      map_none (filter (moves_up document cuts.fourth) rows),
    )
    refl
