use Rattle.std.proofs.Common.{◌≡◌, ◌+◌, ◌≤◌, map, take, length}
use Rattle.enfilade_core.specs.Rows.{moved}
use Rattle.enfilade_core.specs.Plain.{plain_row}
use Rattle.enfilade_core.proofs.move_children.rows_moved.Given as goal

abbrev pub invariant-loop-row : goal.invariant-loop-row
invariant-loop-row g l = record {
  made : map (plain_row g.P.Plane.plain) l.made.items ≡ map (moved l.first l.second) (map (plain_row g.P.Plane.plain) (take l.row-index l.rows));
  room : length l.rows ≤ l.made.spare + l.row-index;
}
