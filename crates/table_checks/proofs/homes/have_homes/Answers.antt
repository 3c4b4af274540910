use Rattle.std.proofs.Common.{IsTrue, ◌∙◌, sym}
use Rattle.page_tables.specs.declared.tables.TableLink.{TableLink}
use Rattle.page_tables.specs.Plain.{PlainLink, plain_link}
use Rattle.table_checks.specs.TableRows.{is_listed}
use Rattle.table_checks.proofs.Tested.{yes_iff, no_iff, more, seen_whole, seen_fails, untrue}
use Rattle.table_checks.proofs.homes.have_homes.Goals as goal

pub returns-then-not-is_listed : goal.returns-then-not-is_listed
returns-then-not-is_listed c =
    no_iff (seen_fails (λ (link : PlainLink). IsTrue (is_listed c.args.rows.now link.home)) plain_link c.args.links.now c.loop-link.link-index c.link-item.result c.loop-link-test.true c.link-item.is (untrue _ _ c.is_listed.ensures c.if-not-is_listed.true))

pub loop-link-preserved : goal.loop-link-preserved
loop-link-preserved c =
    more (λ (link : TableLink). IsTrue (is_listed c.args.rows.now link.home)) c.args.links.now c.loop-link.link-index c.link-item.result c.loop-link-test.true c.link-item.is (sym c.is_listed.ensures ∙ c.if-not-is_listed.false) c.loop-link.invariant

pub returns : goal.returns
returns c = yes_iff (seen_whole (λ (link : PlainLink). IsTrue (is_listed c.args.rows.now link.home)) plain_link c.args.links.now c.loop-link.link-index c.loop-link-test.false c.loop-link.invariant)
