use Rattle.std.proofs.Common.{◌≡◌, ◌++◌, take, map}
use Rattle.world_rules.specs.declared.rows.Row.{Row}
use Rattle.world_rules.specs.Edits.{block, up_by, down_by}
use Rattle.flat_rows.proofs.swaps.push_block.Given as goal

abbrev pub invariant-loop-row : goal.invariant-loop-row
invariant-loop-row l = l.made.items ≡ l.initial.made.items ++ map (λ (row : Row). down_by l.down (up_by l.up row)) (block (take l.row-index l.rows) l.document l.low l.high)
