use Rattle.std.proofs.Common.{◌≡◌, ◌≤◌, get_or}
use Rattle.enfilade_core.specs.NewNumbers.{rank}
use Rattle.enfilade_core.specs.KeptMarked.{AreMoved}
use Rattle.enfilade_core.proofs.keep_nodes.move_marked.Given as goal

abbrev pub invariant-loop-number : goal.invariant-loop-number
invariant-loop-number g l = record {
  moved : AreMoved g.P.Plane.plain l.marks (λ i. get_or l.ranks i 0) l.initial.nodes l.nodes l.number;
  count : l.count ≡ rank l.marks l.number;
  few : l.count ≤ l.number;
}
