-- One row after another is tested.
use Rattle.std.proofs.Common.{refl, map}
use Rattle.page_tables.specs.Plain.{plain_link}
use Rattle.content_checks.specs.Listed.{listed_ids}
use Rattle.content_checks.proofs.BackedRows.{none_backed, backed_more, not_backed, all_backed, links_backed}
use Rattle.content_checks.proofs.showing.show_links.Goals as goal

pub loop-row-init : goal.loop-row-init
loop-row-init c = none_backed 2 (listed_ids (map plain_link c.args.listed.now)) c.args.rows.now

pub loop-row-preserved : goal.loop-row-preserved
loop-row-preserved c =
    backed_more 2 (listed_ids (map plain_link c.args.listed.now)) c.args.rows.now c.loop-row.row-index c.row-item.result c.row-item.is (c.row_shows_links.ensures.0 c.if-not-row_shows_links.false) c.loop-row.invariant

pub returns-then-not-row_shows_links : goal.returns-then-not-row_shows_links
returns-then-not-row_shows_links c = (
  λ never. absurd cc,
  λ all. absurd (not_backed 2 (listed_ids (map plain_link c.args.listed.now)) c.args.rows.now c.loop-row.row-index c.row-item.result c.row_shows_links.result c.loop-row-test.true c.row-item.is c.if-not-row_shows_links.true c.row_shows_links.ensures
      ((links_backed (listed_ids (map plain_link c.args.listed.now)) c.args.rows.now c.requires.one).1 all)),
)

pub returns : goal.returns
returns c =
    (λ yes. (links_backed (listed_ids (map plain_link c.args.listed.now)) c.args.rows.now c.requires.one).0 (all_backed 2 (listed_ids (map plain_link c.args.listed.now)) c.args.rows.now c.loop-row.row-index c.loop-row-test.false c.loop-row.invariant), λ all. refl)
