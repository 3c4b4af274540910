use Rattle.std.proofs.Common.{◌≡◌, take}
use Rattle.enfilade_core.specs.Axes.{first_axis, second_axis}
use Rattle.enfilade_core.specs.Reach.{branches_reach}
use Rattle.enfilade_core.proofs.arena.Arena.+reach_below.Given as goal

abbrev pub decreases-reach_below : goal.decreases-reach_below
decreases-reach_below g l = l.node.0

abbrev pub invariant-loop-branch : goal.invariant-loop-branch
invariant-loop-branch g l = record {
  first : l.reach.first ≡ branches_reach (first_axis g.P.Plane.widths) l.self (take l.branch-index l.branch-items);
  second : l.reach.second ≡ branches_reach (second_axis g.P.Plane.widths) l.self (take l.branch-index l.branch-items);
}
