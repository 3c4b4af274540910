use Rattle.std.proofs.Common.{◌∙◌, sym, subst}
use Rattle.std.specs.List.{All}
use Rattle.enfilade_core.specs.Rows.{rows_of}
use Rattle.enfilade_core.specs.Axes.{IsWellFormedRow, InOrder}
use Rattle.enfilade_core.specs.Planes.{key_widths}
use Rattle.enfilade_core.proofs.Parts.{rows-ordered}
use Rattle.spanfilade.proofs.Rows.{plain_rows}
use Rattle.spanfilade.proofs.GroupRows.{held_at, group_some, with_group-ordered}
use Rattle.spanfilade.proofs.groups.put_group.Goals as goal

pub splice-requires-clause-well_formed : goal.splice-requires-clause-well_formed
splice-requires-clause-well_formed c = subst (All (IsWellFormedRow key_widths)) (sym (plain_rows c.args.group.now.items)) c.requires.well_formed

pub splice-requires-clause-ordered : goal.splice-requires-clause-ordered
splice-requires-clause-ordered c =
    let rows = rows_of c.args.arena.now c.args.root.0 in
    subst InOrder (sym (held_at c.as_slice.result.now c.args.group.now.items rows c.index-as_slice-0.result c.copy-at.result c.as_slice.ensures c.copy-at.ensures (sym c.is_empty.ensures ∙ c.if-is_empty.false)))
    (with_group-ordered c.args.group.now.items rows c.requires.fits (rows-ordered key_widths c.args.arena.now c.args.root.0 c.nodes_are_well_formed.ensures c.requires.below))

pub returns-clause-rows : goal.returns-clause-rows
returns-clause-rows c =
    c.in_ok-made.ensures.rows
    ∙ held_at c.as_slice.result.now c.args.group.now.items (rows_of c.args.arena.now c.args.root.0) c.index-as_slice-0.result c.copy-at.result c.as_slice.ensures c.copy-at.ensures (sym c.is_empty.ensures ∙ c.if-is_empty.false)

pub returns-clause-level : goal.returns-clause-level
returns-clause-level c =
    c.in_ok-made.ensures.level (λ none. group_some c.args.group.now.items (rows_of c.args.arena.now c.args.root.0) (sym c.is_empty.ensures ∙ c.if-is_empty.false)
    (sym (held_at c.as_slice.result.now c.args.group.now.items (rows_of c.args.arena.now c.args.root.0) c.index-as_slice-0.result c.copy-at.result c.as_slice.ensures c.copy-at.ensures (sym c.is_empty.ensures ∙ c.if-is_empty.false)) ∙ sym c.in_ok-made.ensures.rows ∙ none))
