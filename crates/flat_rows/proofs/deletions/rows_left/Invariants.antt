use Rattle.std.proofs.Common.{◌≡◌, take}
use Rattle.flat_rows.specs.Closing.{rows_left}
use Rattle.flat_rows.proofs.deletions.rows_left.Given as goal

abbrev pub invariant-loop-row : goal.invariant-loop-row
invariant-loop-row l = l.made.items ≡ rows_left (take l.row-index l.rows) l.document l.start l.end l.text l.links
