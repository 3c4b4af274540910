use Rattle.std.proofs.Common.{◌∙◌}
use Rattle.enfilade_core.specs.declared.tree.Branch.{Branch}
use Rattle.enfilade_sweep.proofs.Marking.{marked_more, marked_all}
use Rattle.enfilade_sweep.proofs.marks.mark_branches.Goals as goal

pub loop-branch-preserved : goal.loop-branch-preserved
loop-branch-preserved g c = record {
  long = c.mark.ensures.long ∙ c.loop-branch.invariant.long;
  marked =
      marked_more (λ (branch : Branch). branch.node.0) c.args.branches.now c.loop-branch.branch-index c.branch-item.result _ c.args.marks.now.items c.loop-branch.marks.items c.mark.new.marks.items c.loop-branch-test.true c.branch-item.is c.loop-branch.invariant.marked
      c.mark.ensures.marked;
}

pub returns-clause-marked : goal.returns-clause-marked
returns-clause-marked g c =
    marked_all (λ (branch : Branch). branch.node.0) c.args.branches.now c.loop-branch.branch-index c.args.marks.now.items c.loop-branch.marks.items c.loop-branch-test.false c.loop-branch.invariant.marked
