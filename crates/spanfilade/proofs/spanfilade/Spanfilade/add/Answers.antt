use Rattle.std.proofs.Common.{◌∙◌, [], ap, sym}
use Rattle.enfilade_core.specs.Rows.{rows_of}
use Rattle.enfilade_core.specs.Planes.{key_widths}
use Rattle.enfilade_core.specs.Summary.{depth_of}
use Rattle.enfilade_core.specs.Edits.{put_before}
use Rattle.enfilade_core.proofs.Parts.{rows-ordered}
use Rattle.spanfilade.specs.Index.{IndexTree, row_of}
use Rattle.spanfilade.proofs.Rows.{plain_rows}
use Rattle.spanfilade.proofs.Adding.{one_in_order, put_some}
use Rattle.spanfilade.proofs.spanfilade.Spanfilade.add.Goals as goal

pub splice-requires-clause-ordered : goal.splice-requires-clause-ordered
splice-requires-clause-ordered c =
    one_in_order (row_of c.args.span.now c.args.key.now) _ _ (plain_rows c.in_ok-rows.rows.items ∙ c.in_ok-rows.ensures.value)
    (rows-ordered key_widths c.self.inside.arena c.self.inside.root.0 c.allocator.ensures.well_formed c.self.invariant)

pub returns-clause-level : goal.returns-clause-level
returns-clause-level c =
    let at = c.args.span.now.start in
    let row = row_of c.args.span.now c.args.key.now in
    let rows = rows_of c.self.inside.arena c.self.inside.root.0 in
    let now = c.in_ok-self-inside.ensures.rows ∙ ap (λ new. put_before at new rows) (plain_rows c.in_ok-rows.rows.items ∙ c.in_ok-rows.ensures.value) in
    c.in_ok-self-inside.ensures.level (λ none. put_some at row [] rows (sym now ∙ none)) ∙ ap (λ (t : IndexTree). depth_of key_widths t.nodes t.root.0) c.self.view_is
