use Rattle.page_tables.specs.declared.tables.TableLink.{TableLink}
use Rattle.page_tables.specs.Plain.{plain_link}
use Rattle.table_checks.specs.Sound.{HasLinkRuns}
use Rattle.table_checks.proofs.Tested.{yes_iff, no_iff, refuted, more, seen_whole, seen_fails}
use Rattle.table_checks.proofs.runs.have_runs.Goals as goal

pub returns-then-not-has_runs : goal.returns-then-not-has_runs
returns-then-not-has_runs c =
    no_iff (seen_fails HasLinkRuns plain_link c.args.links.now c.loop-link.link-index c.link-item.result c.loop-link-test.true c.link-item.is (refuted c.has_runs.result c.has_runs.ensures c.if-not-has_runs.true))

pub loop-link-preserved : goal.loop-link-preserved
loop-link-preserved c =
    more (λ (link : TableLink). HasLinkRuns (plain_link link)) c.args.links.now c.loop-link.link-index c.link-item.result c.loop-link-test.true c.link-item.is (c.has_runs.ensures.0 c.if-not-has_runs.false) c.loop-link.invariant

pub returns : goal.returns
returns c = yes_iff (seen_whole HasLinkRuns plain_link c.args.links.now c.loop-link.link-index c.loop-link-test.false c.loop-link.invariant)
