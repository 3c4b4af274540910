-- The rows are those of the tree, well formed and in order.
use Rattle.std.proofs.Common.{◌↔◌, ◌∙◌, List, map, sym, subst, ap, IsTrue}
use Rattle.std.specs.List.{All}
use Rattle.enfilade_core.specs.Rows.{rows_of}
use Rattle.enfilade_core.specs.Axes.{InOrder, IsWellFormedRow}
use Rattle.enfilade_core.specs.Plain.{plain_row}
use Rattle.enfilade_core.specs.Planes.{content_widths, plain_text}
use Rattle.enfilade_core.proofs.Parts.{rows-well_formed, rows-ordered}
use Rattle.granfilade.specs.Puts.{end_of_row, Linked}
use Rattle.content_checks.specs.Listed.{listed_bytes}
use Rattle.content_checks.specs.inside.Steps.{HaveBytes}
use Rattle.content_checks.proofs.ByteRows.{ByteRow}
use Rattle.content_checks.proofs.ContentRows.{too_many_rows, not_contents, contents_are}
use Rattle.content_checks.proofs.contents.are_contents.Goals as goal

pub are_apart-requires : goal.are_apart-requires
are_apart-requires c =
    let same = sym c.in_ok-rows.ensures ∙ sym (ap (map (plain_row plain_text)) c.as_slice.ensures) in
    record {
      each = subst (All (IsWellFormedRow content_widths)) same (rows-well_formed content_widths c.args.arena.now c.args.root.0 c.nodes_are_well_formed.ensures c.requires.root);
      ordered = subst InOrder same (rows-ordered content_widths c.args.arena.now c.args.root.0 c.nodes_are_well_formed.ensures c.requires.root);
    }

pub returns-then-leaves-bytes_promised : goal.returns-then-leaves-bytes_promised
returns-then-leaves-bytes_promised c = too_many_rows c.args.documents.now (rows_of c.args.arena.now c.args.root.0) c.leaves.result c.bytes_promised.result c.leaves.ensures c.bytes_promised.ensures c.if-leaves-bytes_promised.true

pub returns-then-not-are_apart : goal.returns-then-not-are_apart
returns-then-not-are_apart c =
    let same = ap (map (plain_row plain_text)) c.as_slice.ensures ∙ c.in_ok-rows.ensures in
    not_contents c.args.documents.now (rows_of c.args.arena.now c.args.root.0) (λ linked. let yes = c.are_apart.ensures.1 (subst (Linked end_of_row) (sym same) linked) in let not_so = c.if-not-are_apart.true in absurd cc)

pub returns : goal.returns
returns c =
    let same = ap (map (plain_row plain_text)) c.as_slice.ensures ∙ c.in_ok-rows.ensures in
    let again = ap (map (plain_row plain_text)) c.as_slice-2.ensures ∙ c.in_ok-rows.ensures in
    contents_are c.args.documents.now (rows_of c.args.arena.now c.args.root.0) c.have_bytes.result
    (subst (Linked end_of_row) same (c.are_apart.ensures.0 c.if-not-are_apart.false))
    (subst (λ (rows : List ByteRow). IsTrue c.have_bytes.result ↔ HaveBytes rows (listed_bytes c.args.documents.now)) again c.have_bytes.ensures)
