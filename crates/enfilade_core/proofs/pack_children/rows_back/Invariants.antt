use Rattle.std.proofs.Common.{◌≡◌, ◌+◌, ◌≤◌, map, take, length}
use Rattle.enfilade_core.specs.Plain.{plain_row}
use Rattle.enfilade_core.specs.Packing.{back}
use Rattle.enfilade_core.proofs.pack_children.rows_back.Given as goal

abbrev pub invariant-loop-row : goal.invariant-loop-row
invariant-loop-row g l = record {
  made : map (plain_row g.P.Plane.plain) l.made.items ≡ map (back l.first l.second) (map (plain_row g.P.Plane.plain) (take l.row-index l.rows));
  room : length l.rows ≤ l.made.spare + l.row-index;
}
