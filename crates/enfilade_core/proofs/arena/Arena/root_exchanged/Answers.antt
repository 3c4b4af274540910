use Rattle.std.proofs.Common.{◌++◌, ◌∙◌, ap, map, sym, subst, List}
use Rattle.enfilade_core.specs.Axes.{IsWellFormedRows}
use Rattle.enfilade_core.specs.Rows.{Shape, moved, rows_of, node_at, branches_under}
use Rattle.enfilade_core.specs.Summary.{height_of}
use Rattle.enfilade_core.specs.Edits.{taken_out}
use Rattle.enfilade_core.specs.Exchange.{exchanged}
use Rattle.enfilade_core.specs.Plain.{plain_row}
use Rattle.enfilade_core.specs.Touched.{around_middle}
use Rattle.enfilade_core.proofs.Rooted.{at_root, seen_from_root, exchange_well_formed}
use Rattle.enfilade_core.proofs.ExchangeMiddle.{root-inner, rows-bottom, rows-under_well_formed, root-bottom}
use Rattle.enfilade_core.proofs.arena.Arena.root_exchanged.Goals as goal

pub rows_exchanged-requires-clause-old_well_formed : goal.rows_exchanged-requires-clause-old_well_formed
rows_exchanged-requires-clause-old_well_formed g c =
    subst (IsWellFormedRows g.P.Plane.widths) (sym c.rows_under.ensures) (rows-under_well_formed g.P.Plane.widths c.args.self.now c.args.root.0 c.allocator-alloc.ensures.well_formed c.requires.below (c.is_bottom.ensures.bottom c.if-is_bottom.true))

pub rows_exchanged-requires-clause-well_formed : goal.rows_exchanged-requires-clause-well_formed
rows_exchanged-requires-clause-well_formed g c =
    (subst (λ (r : List _). IsWellFormedRows g.P.Plane.widths (exchanged c.args.gap.now (map (plain_row g.P.Plane.plain) c.args.rows.now) r)) (rows-bottom g.P.Plane.widths c.args.self.now c.args.root.0 c.allocator-alloc.ensures.well_formed c.requires.below (c.is_bottom.ensures.bottom c.if-is_bottom.true) ∙ sym c.rows_under.ensures) c.requires.well_formed).each

pub returns-then-is_bottom-clause-rows : goal.returns-then-is_bottom-clause-rows
returns-then-is_bottom-clause-rows g c =
    root-bottom g.P.Plane.widths c.args.self.now c.args.root.0 c.args.gap.now (map (plain_row g.P.Plane.plain) c.args.rows.now) (map (plain_row g.P.Plane.plain) c.rows_under.result.now) (map (plain_row g.P.Plane.plain) c.in_ok-made.made.items)
    c.allocator-alloc.ensures.well_formed c.requires.below (c.is_bottom.ensures.bottom c.if-is_bottom.true) c.rows_under.ensures c.requires.well_formed c.in_ok-made.ensures.rows

pub returns-then-is_bottom-clause-out : goal.returns-then-is_bottom-clause-out
returns-then-is_bottom-clause-out g c =
    c.in_ok-made.ensures.out ∙ ap (λ (r : List _). map (plain_row g.P.Plane.plain) c.args.out.now.items ++ taken_out c.args.gap.now.from c.args.gap.now.to r)
    (c.rows_under.ensures ∙ sym (rows-bottom g.P.Plane.widths c.args.self.now c.args.root.0 c.allocator-alloc.ensures.well_formed c.requires.below (c.is_bottom.ensures.bottom c.if-is_bottom.true)))

pub node_exchanged-requires-clause-at : goal.node_exchanged-requires-clause-at
node_exchanged-requires-clause-at g c =
    at_root g.P.Plane.widths c.args.self.now c.args.root.0 c.zero-zero.result c.zero-zero.result c.zero-zero.ensures c.zero-zero.ensures c.allocator-alloc.ensures.well_formed c.requires.below

pub node_exchanged-requires-clause-well_formed : goal.node_exchanged-requires-clause-well_formed
node_exchanged-requires-clause-well_formed g c =
    exchange_well_formed g.P.Plane.widths c.args.gap.now (map (plain_row g.P.Plane.plain) c.args.rows.now) (rows_of c.args.self.now c.args.root.0) (map (moved c.zero-zero.result c.zero-zero.result) (rows_of c.args.self.now c.args.root.0))
    (seen_from_root c.zero-zero.result c.zero-zero.result (rows_of c.args.self.now c.args.root.0) c.zero-zero.ensures c.zero-zero.ensures) c.requires.well_formed

pub returns-clause-rows : goal.returns-clause-rows
returns-clause-rows g c =
    let zero = c.zero-zero.result in
    let touched = c.in_ok-touched.touched in
    root-inner g.P.Plane.widths c.node_exchanged.new.self (height_of g.P.Plane.widths c.args.self.now c.args.root.0) zero c.args.gap.now (map (plain_row g.P.Plane.plain) c.args.rows.now) (rows_of c.args.self.now c.args.root.0) (branches_under (node_at c.args.self.now c.args.root.0)) c.in_ok-made-2.made.items touched c.zero-zero.ensures
    (c.in_ok-made-2.ensures ∙ ap (λ (node : Shape _). around_middle zero zero (branches_under node) touched) c.node_exchanged.ensures.same) c.in_ok-touched.ensures.rows

pub returns-clause-out : goal.returns-clause-out
returns-clause-out g c =
    let old = rows_of c.args.self.now c.args.root.0 in
    c.in_ok-touched.ensures.out ∙ ap (λ (r : List _). map (plain_row g.P.Plane.plain) c.args.out.now.items ++ taken_out c.args.gap.now.from c.args.gap.now.to r) (seen_from_root c.zero-zero.result c.zero-zero.result old c.zero-zero.ensures c.zero-zero.ensures)
