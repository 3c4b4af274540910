use Rattle.std.proofs.Common.{◌≡◌, ◌≤◌, ◌+◌, ◌++◌, take, length}
use Rattle.flat_rows.proofs.edits.append_rows.Given as goal

abbrev pub invariant-loop-row : goal.invariant-loop-row
invariant-loop-row l = (l.rows.items ≡ l.initial.rows.items ++ take l.row-index l.fresh) × (length l.fresh ≤ l.rows.spare + l.row-index)
