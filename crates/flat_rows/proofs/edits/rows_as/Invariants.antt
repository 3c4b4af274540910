use Rattle.std.proofs.Common.{◌≡◌, take}
use Rattle.world_rules.specs.Edits.{rows_as}
use Rattle.flat_rows.proofs.edits.rows_as.Given as goal

abbrev pub invariant-loop-row : goal.invariant-loop-row
invariant-loop-row l = l.made.items ≡ rows_as (take l.row-index l.rows) l.source l.document
