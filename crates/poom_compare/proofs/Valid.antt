-- Each diagonal of two texts counts its positions from 1, and stays below the bound.
use Rattle.std.proofs.Common.{◌≡◌, ℕ, zero, suc, ◌+◌, ◌-◌, ◌<◌, ◌≤◌, Bool, List, length, true, false, refl, subst, sym, arith, All, get_or, cond}
use Rattle.std.specs.Prelude.{filter}
use Rattle.std.proofs.lemmas.List.Elements.{All-map, All-filter, All-contains}
use Rattle.std.proofs.lemmas.Map.Views.{Contains-from_any}
use Rattle.febe_data.specs.Validity.{IsDiagonal}
use Rattle.febe_data.specs.declared.run.Diagonal.{Diagonal}
use Rattle.tumbler.specs.declared.span.Span.{Span}
use Rattle.world_rules.specs.declared.pairs.Pair.{Pair}
use Rattle.world_rules.specs.declared.rows.Row.{Row}
use Rattle.world_rules.specs.World.{is_same}
use Rattle.world_rules.specs.Relation.{has_pair, is_start, next_pair, reach, pairs_of_row, diagonal_from, diagonals_of}
use Rattle.poom_compare.specs.declared.compared.Compared.{Compared}
use Rattle.poom_compare.specs.declared.compared.Compared.TheVariants.{Diagonals, TooMany}
use Rattle.poom_compare.specs.Shared.{is_picked_by_some, rows_picked, pairs_between, IsCompared, AreValid, DiagonalsAreValid}
use Rattle.poom_compare.proofs.Lists.{all_flat}
use Rattle.poom_compare.proofs.Laying.{rows_from, rows_upto}
use Rattle.poom_compare.proofs.Whole.{pair_decides}

-- both positions are from 1 on, and not past the ends of the texts
record IsInside (lefts rights : ℕ) (pair : Pair) : Type 0 where
  left : 1 ≤ pair.left
  left_end : pair.left ≤ lefts
  right : 1 ≤ pair.right
  right_end : pair.right ≤ rights

-- the row is from position 1 on, and not past the end of the text
record IsRowInside (long : ℕ) (row : Row) : Type 0 where
  from_one : 1 ≤ row.n
  to_end : row.n ≤ long

rows_inside : (spans : List Span) (text : List (List ℕ)) → All (IsRowInside (length text)) (rows_picked spans text)
rows_inside spans text = All-filter (is_picked_by_some spans) (IsRowInside (length text)) _
    (λ k d within. let from = rows_from 1 text k d within in let upto = rows_upto 1 text k d within in record { from_one = from; to_end = omega arith })

pairs_inside : (a b : ℕ) (lefts rights : List Row) → All (IsRowInside a) lefts → All (IsRowInside b) rights → All (IsInside a b) (pairs_between lefts rights)
pairs_inside a b lefts rights left right = all_flat (IsInside a b) (pairs_of_row rights) lefts
    (λ k d within. All-map (IsInside a b) (λ (other : Row). record { left = (get_or lefts k d).n; right = other.n }) _
    (All-filter (λ (other : Row). is_same other.address (get_or lefts k d).address) (λ (other : Row). IsInside a b (record { left = (get_or lefts k d).n; right = other.n })) rights
    (λ j e inside. let one = left k d within in let two = right j e inside in record { left = one.from_one; left_end = one.to_end; right = two.from_one; right_end = two.to_end })))

-- pairs that follow each other end where the left text does
reach_upto : (a b : ℕ) (pairs : List Pair) → All (IsInside a b) pairs → (most : ℕ) (pair : Pair) → reach pairs most pair ≤ a + 1 - pair.left
reach_upto a b pairs inside zero pair = omega arith
reach_upto a b pairs inside (suc most) pair = step (has_pair pairs pair) refl (reach_upto a b pairs inside most (next_pair pair))
  where
    step : (has : Bool) → has_pair pairs pair ≡ has → reach pairs most (next_pair pair) ≤ a + 1 - (pair.left + 1) → cond has (reach pairs most (next_pair pair) + 1) 0 ≤ a + 1 - pair.left
    step true e rest =
        let one = All-contains (IsInside a b) pairs pair inside (Contains-from_any pair_decides pair pairs e) in
        let end = one.left_end in
        omega arith
    step false e rest = omega arith

diagonal_valid : (a b : ℕ) (pairs : List Pair) → All (IsInside a b) pairs → a < 4294967296 → b < 4294967296 → (pair : Pair) → IsInside a b pair → IsDiagonal (diagonal_from pairs pair)
diagonal_valid a b pairs inside few few' pair is =
    let long = reach_upto a b pairs inside (length pairs) pair in
    let left = is.left in
    let left_end = is.left_end in
    let right_end = is.right_end in
    record { left = left; left_bound = omega arith; right = is.right; right_bound = omega arith; length_bound = omega arith }

diagonals_valid : (a b : ℕ) (pairs : List Pair) → All (IsInside a b) pairs → a < 4294967296 → b < 4294967296 → All IsDiagonal (diagonals_of pairs)
diagonals_valid a b pairs inside few few' = All-map IsDiagonal (diagonal_from pairs) (filter (is_start pairs) pairs)
    (All-filter (is_start pairs) (λ (pair : Pair). IsDiagonal (diagonal_from pairs pair)) pairs (λ k d within. diagonal_valid a b pairs inside few few' (get_or pairs k d) (inside k d within)))

pub are_valid : DiagonalsAreValid
are_valid left left_spans right right_spans few few' =
    diagonals_valid (length left) (length right) (pairs_between (rows_picked left_spans left) (rows_picked right_spans right))
    (pairs_inside (length left) (length right) (rows_picked left_spans left) (rows_picked right_spans right) (rows_inside left_spans left) (rows_inside right_spans right)) few few'

pub compared_valid : (wanted : List Diagonal) (compared : Compared) → IsCompared wanted compared → All IsDiagonal wanted → AreValid compared
compared_valid wanted (Diagonals made) is valid = subst (All IsDiagonal) (sym is.0) valid
compared_valid wanted TooMany is valid = record {}
