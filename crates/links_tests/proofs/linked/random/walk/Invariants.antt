use Rattle.std.proofs.Common.{◌<◌, ◌≤◌, length}
use Rattle.spanfilade.specs.Index.{at_mark}
use Rattle.links.specs.LinkLists.{HoldsRuns, removed}
use Rattle.links_tests.proofs.linked.random.walk.Given as goal

abbrev pub invariant-loop : goal.invariant-loop
invariant-loop g l = record {
  below : (l.last.marks.from.root.0 < l.last.marks.from.count) × (l.last.marks.to.root.0 < l.last.marks.to.count) × (l.last.marks.three.root.0 < l.last.marks.three.count);
  counted : (l.last.marks.from.count ≤ length l.links.from.nodes) × (l.last.marks.to.count ≤ length l.links.to.nodes) × (l.last.marks.three.count ≤ length l.links.three.nodes);
  from : HoldsRuns 1 (removed l.links.links l.last.id) (at_mark l.last.marks.from l.links.from);
  to : HoldsRuns 2 (removed l.links.links l.last.id) (at_mark l.last.marks.to l.links.to);
  three : HoldsRuns 3 (removed l.links.links l.last.id) (at_mark l.last.marks.three l.links.three);
}
