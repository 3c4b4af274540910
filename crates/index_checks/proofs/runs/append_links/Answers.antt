use Rattle.std.proofs.Common.{sym, ◌∙◌, subst, true≢false}
use Rattle.std.specs.List.{All}
use Rattle.links.specs.LinkLists.{plain_link}
use Rattle.index_checks.specs.inside.Addressed.{HasAddress, HaveAddresses}
use Rattle.index_checks.proofs.RunRows.{more_links, more_hold, here_holds}
use Rattle.index_checks.proofs.runs.append_links.Goals as goal

pub returns-then-not-branch-clause-told : goal.returns-then-not-branch-clause-told
returns-then-not-branch-clause-told c = (
  λ t. absurd (true≢false (sym t)),
  λ all. absurd (true≢false (sym
      (c.in_ok-append_runs.ensures.told.1
      (subst (All HasAddress) (sym c.runs_at.ensures) (here_holds (HaveAddresses c.args.end) plain_link c.args.links.now c.loop-link.link-index c.link-item.result all c.loop-link-test.true c.link-item.is)))
      ∙ c.if-not-branch.true)),
)

pub loop-link-preserved : goal.loop-link-preserved
loop-link-preserved c = record {
  addressed = more_hold (HaveAddresses c.args.end) plain_link c.args.links.now c.loop-link.link-index c.link-item.result c.loop-link.invariant.addressed (subst (All HasAddress) c.runs_at.ensures (c.in_ok-append_runs.ensures.told.0 c.if-not-branch.false)) c.loop-link-test.true c.link-item.is;
  rows = more_links c.args.end c.args.into.now.items c.loop-link.into.items c.append_runs.new.into.items c.args.links.now c.loop-link.link-index c.link-item.result c.runs_at.result.now c.loop-link.invariant.rows c.runs_at.ensures (c.in_ok-append_runs.ensures.rows c.if-not-branch.false) c.loop-link-test.true c.link-item.is;
}
