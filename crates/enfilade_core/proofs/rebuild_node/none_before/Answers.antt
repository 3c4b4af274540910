use Rattle.std.proofs.Common.{◌∙◌, sym}
use Rattle.tumbler.specs.Places.{IsUpTo}
use Rattle.tumbler.proofs.Before.{up_to_if_false}
use Rattle.tumbler.proofs.Order.{upto_itself}
use Rattle.enfilade_core.proofs.PackedOrigins.{least-more, least-all}
use Rattle.enfilade_core.proofs.rebuild_node.none_before.Goals as goal

pub loop-branch-preserved : goal.loop-branch-preserved
loop-branch-preserved c =
    let first = c.args.first.now in
    let second = c.args.second.now in
    let item = c.branch-item.result in
    record {
      first = least-more (λ branch. branch.first) c.args.branches.now c.loop-branch.branch-index item first first c.loop-branch-test.true c.branch-item.is c.loop-branch.invariant.first (upto_itself first) (up_to_if_false item.first first (sym c.is_before.ensures.value ∙ c.if-is_before.false));
      second = least-more (λ branch. branch.second) c.args.branches.now c.loop-branch.branch-index item second second c.loop-branch-test.true c.branch-item.is c.loop-branch.invariant.second (upto_itself second) (up_to_if_false item.second second (sym c.is_before-in-loop-branch.ensures.value ∙ c.if-is_before-2.false));
    }

pub returns-clause-first : goal.returns-clause-first
returns-clause-first c = λ all. least-all (λ branch. IsUpTo c.args.first.now branch.first) c.args.branches.now c.loop-branch.branch-index c.loop-branch-test.false c.loop-branch.invariant.first

pub returns-clause-second : goal.returns-clause-second
returns-clause-second c = λ all. least-all (λ branch. IsUpTo c.args.second.now branch.second) c.args.branches.now c.loop-branch.branch-index c.loop-branch-test.false c.loop-branch.invariant.second
