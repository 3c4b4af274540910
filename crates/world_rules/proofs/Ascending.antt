-- Rows in a row ascend.
use Rattle.std.proofs.Common.{◌≡◌, ℕ, ◌+◌, ◌<◌, List, [], ◌∷◌, arith, All}
use Rattle.std.specs.List.{AllPairs}
use Rattle.std.proofs.lemmas.List.Elements.{All-nil, All-cons}
use Rattle.std.proofs.lemmas.List.Kept.{AllPairs-cons}
use Rattle.world_rules.specs.declared.rows.Row.{Row}
use Rattle.world_rules.proofs.InRow.{InRow, row_head, row_tail}
use Rattle.world_rules.proofs.Later.{none_later}
use Rattle.world_rules.proofs.RelationOrder.{IsRowBefore}

-- all of a row that begins further on are further on
row_later : (n a : ℕ) (rows : List Row) → n < a → InRow a rows → All (λ (row : Row). n < row.n) rows
row_later n a [] lt each = All-nil (λ (row : Row). n < row.n)
row_later n a (row ∷ rows) lt each =
    let here : row.n ≡ a = row_head a row rows each in
    All-cons (λ (row : Row). n < row.n) row rows (omega arith) (row_later n (a + 1) rows (omega arith) (row_tail a row rows each))

pub row_ascends : (a : ℕ) (rows : List Row) → InRow a rows → AllPairs IsRowBefore rows
row_ascends a [] each = none_later IsRowBefore
row_ascends a (row ∷ rows) each =
    let here : row.n ≡ a = row_head a row rows each in
    AllPairs-cons IsRowBefore row rows (row_later row.n (a + 1) rows (omega arith) (row_tail a row rows each)) (row_ascends (a + 1) rows (row_tail a row rows each))
