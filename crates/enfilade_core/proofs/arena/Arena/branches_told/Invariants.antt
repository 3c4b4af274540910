use Rattle.std.proofs.Common.{take}
use Rattle.enfilade_core.specs.Summary.{branch_summary, summaries}
use Rattle.enfilade_core.proofs.Joined.{JoinedSoFar}
use Rattle.enfilade_core.proofs.arena.Arena.branches_told.Given as goal

abbrev pub invariant-loop-branch : goal.invariant-loop-branch
invariant-loop-branch g l = JoinedSoFar (branch_summary (summaries g.P.Plane.widths l.self)) (take l.branch-index l.branches) l.summary
