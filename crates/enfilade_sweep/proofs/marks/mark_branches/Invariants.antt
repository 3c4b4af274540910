use Rattle.std.proofs.Common.{◌≡◌, length, take, map}
use Rattle.enfilade_core.specs.declared.tree.Branch.{Branch}
use Rattle.enfilade_sweep.specs.Marks.{MarksMore}
use Rattle.enfilade_sweep.proofs.marks.mark_branches.Given as goal

abbrev pub invariant-loop-branch : goal.invariant-loop-branch
invariant-loop-branch g l = record {
  long : length l.marks.items ≡ length l.initial.marks.items;
  marked : MarksMore (map (λ (branch : Branch). branch.node.0) (take l.branch-index l.branches)) l.initial.marks.items l.marks.items;
}
