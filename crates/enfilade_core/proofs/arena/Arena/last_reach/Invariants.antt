use Rattle.std.proofs.Common.{◌≡◌, take}
use Rattle.enfilade_core.specs.Axes.{first_axis, second_axis}
use Rattle.enfilade_core.specs.Reach.{branches_reach}
use Rattle.enfilade_core.proofs.arena.Arena.last_reach.Given as goal

abbrev pub invariant-loop-branch : goal.invariant-loop-branch
invariant-loop-branch g l = record {
  first : l.reach.first ≡ branches_reach (first_axis g.P.Plane.widths) l.self (take l.branch-index l.branch-items);
  second : l.reach.second ≡ branches_reach (second_axis g.P.Plane.widths) l.self (take l.branch-index l.branch-items);
}
