use Rattle.std.proofs.Common.{◌≡◌, ◌++◌, map, take, All}
use Rattle.enfilade_core.specs.Touched.{seen_moved, MovesSeen}
use Rattle.enfilade_core.proofs.arena.Arena.append_seen.Given as goal

abbrev pub invariant-loop-branch : goal.invariant-loop-branch
invariant-loop-branch g l = record {
  are : l.made.items ≡ l.fn.made.items ++ map (seen_moved l.to l.onto) (take l.branch-index l.branches);
  moves : All (MovesSeen g.P.Plane.widths l.self l.first l.second l.to l.onto) (take l.branch-index l.branches);
}
