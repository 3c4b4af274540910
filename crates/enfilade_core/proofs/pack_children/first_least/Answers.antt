use Rattle.tumbler.specs.Places.{IsUpTo}
use Rattle.enfilade_core.proofs.PackedOrigins.{least-more, least-all}
use Rattle.enfilade_core.proofs.pack_children.first_least.Goals as goal

pub loop-branch-preserved : goal.loop-branch-preserved
loop-branch-preserved c =
    least-more (λ branch. branch.first) c.args.branches.now c.loop-branch.branch-index c.branch-item.result c.loop-branch.least c.lesser-least.result c.loop-branch-test.true c.branch-item.is c.loop-branch.invariant c.lesser-least.ensures.first c.lesser-least.ensures.second

pub returns-clause-up_to : goal.returns-clause-up_to
returns-clause-up_to c = least-all (λ branch. IsUpTo c.loop-branch.least branch.first) c.args.branches.now c.loop-branch.branch-index c.loop-branch-test.false c.loop-branch.invariant
