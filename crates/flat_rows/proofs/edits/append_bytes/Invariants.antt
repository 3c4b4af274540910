use Rattle.std.proofs.Common.{◌≡◌, ◌≤◌, ◌+◌, ◌++◌, take, length}
use Rattle.flat_rows.proofs.edits.append_bytes.Given as goal

abbrev pub invariant-loop-row : goal.invariant-loop-row
invariant-loop-row l = (l.bytes.items ≡ l.initial.bytes.items ++ take l.row-index l.fresh) × (length l.fresh ≤ l.bytes.spare + l.row-index)
