-- One row after another is tested.
use Rattle.std.proofs.Common.{refl}
use Rattle.content_checks.specs.Listed.{listed_bytes}
use Rattle.content_checks.proofs.BackedRows.{none_backed, backed_more, not_backed, all_backed, texts_backed}
use Rattle.content_checks.proofs.showing.show_bytes.Goals as goal

pub loop-row-init : goal.loop-row-init
loop-row-init c = none_backed 1 (listed_bytes c.args.documents.now) c.args.rows.now

pub loop-row-preserved : goal.loop-row-preserved
loop-row-preserved c =
    backed_more 1 (listed_bytes c.args.documents.now) c.args.rows.now c.loop-row.row-index c.row-item.result c.row-item.is (c.row_shows_bytes.ensures.0 c.if-not-row_shows_bytes.false) c.loop-row.invariant

pub returns-then-not-row_shows_bytes : goal.returns-then-not-row_shows_bytes
returns-then-not-row_shows_bytes c = (
  λ never. absurd cc,
  λ all. absurd (not_backed 1 (listed_bytes c.args.documents.now) c.args.rows.now c.loop-row.row-index c.row-item.result c.row_shows_bytes.result c.loop-row-test.true c.row-item.is c.if-not-row_shows_bytes.true c.row_shows_bytes.ensures
      ((texts_backed (listed_bytes c.args.documents.now) c.args.rows.now c.requires.one).1 all)),
)

pub returns : goal.returns
returns c =
    (λ yes. (texts_backed (listed_bytes c.args.documents.now) c.args.rows.now c.requires.one).0 (all_backed 1 (listed_bytes c.args.documents.now) c.args.rows.now c.loop-row.row-index c.loop-row-test.false c.loop-row.invariant), λ all. refl)
