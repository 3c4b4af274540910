-- One document after another is tested.
use Rattle.std.proofs.Common.{◌↔◌, List, subst, IsTrue, true, false}
use Rattle.std.specs.List.{All}
use Rattle.page_tables.specs.declared.tables.TableDocument.{TableDocument}
use Rattle.page_tables.specs.Plain.{plain_tables}
use Rattle.content_checks.specs.Sound.{IsShown}
use Rattle.content_checks.proofs.SeenRoots.{none_seen, none_shown, shown_more, not_shown, all_shown}
use Rattle.content_checks.proofs.documents.documents_are_shown.Goals as goal

pub loop-row-init : goal.loop-row-init
loop-row-init c = record {
  seen = none_seen c.args.poom.now (plain_tables c.args.tables.now) c.new-seen.result c.new-seen.ensures.empty;
  shown = none_shown c.args.poom.now (plain_tables c.args.tables.now) c.as_slice-documents.result.now;
}

pub is_right-requires : goal.is_right-requires
is_right-requires c = record { documents = c.requires.documents; links = c.requires.links; seen = c.loop-row.invariant.seen }

pub loop-row-preserved : goal.loop-row-preserved
loop-row-preserved c = record {
  seen = c.in_ok-right.ensures.seen c.if-not-right.false;
  shown = shown_more c.args.poom.now (plain_tables c.args.tables.now) c.as_slice-documents.result.now c.loop-row.row-index c.row-item.result c.row-item.is (c.in_ok-right.ensures.is.0 c.if-not-right.false) c.loop-row.invariant.shown;
}

pub returns-then-not-right : goal.returns-then-not-right
returns-then-not-right c =
    subst (λ (d : List TableDocument). IsTrue false ↔ All (λ (row : TableDocument). IsShown c.args.poom.now (plain_tables c.args.tables.now) row.root) d) c.as_slice-documents.ensures
    (not_shown c.args.poom.now (plain_tables c.args.tables.now) c.as_slice-documents.result.now c.loop-row.row-index c.row-item.result c.in_ok-right.right c.loop-row-test.true c.row-item.is c.if-not-right.true c.in_ok-right.ensures.is)

pub returns : goal.returns
returns c =
    subst (λ (d : List TableDocument). IsTrue true ↔ All (λ (row : TableDocument). IsShown c.args.poom.now (plain_tables c.args.tables.now) row.root) d) c.as_slice-documents.ensures
    (all_shown c.args.poom.now (plain_tables c.args.tables.now) c.as_slice-documents.result.now c.loop-row.row-index c.loop-row-test.false c.loop-row.invariant.shown)
