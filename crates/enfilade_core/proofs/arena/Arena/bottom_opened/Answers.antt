use Rattle.std.proofs.Common.{◌∙◌, ap, map, sym, subst, List}
use Rattle.enfilade_core.specs.Axes.{IsWellFormedRows}
use Rattle.enfilade_core.specs.Rows.{Rows, branch_rows, rows_table}
use Rattle.enfilade_core.specs.Summary.{height_of}
use Rattle.enfilade_core.specs.Exchange.{exchanged, IsPacked}
use Rattle.enfilade_core.specs.Plain.{plain_row}
use Rattle.enfilade_core.proofs.ExchangeNodes.{mapped-none, packed-has, taken-opened}
use Rattle.enfilade_core.proofs.ExchangeMiddle.{bottom-fits_under, bottom-seen, bottom-well_formed, bottom-has}
use Rattle.enfilade_core.proofs.arena.Arena.bottom_opened.Goals as goal

pub rows_moved-requires : goal.rows_moved-requires
rows_moved-requires g c = bottom-fits_under g.P.Plane.widths c.args.self.now c.args.gap.now (map (plain_row g.P.Plane.plain) c.args.rows.now) c.args.branch.now (map (plain_row g.P.Plane.plain) c.rows_under.result.now) record {
  nodes_well_formed = c.allocator-alloc.ensures.well_formed;
  part = c.requires.part;
  bottom = c.requires.bottom;
  well_formed = c.requires.well_formed;
} c.rows_under.ensures

pub rows_exchanged-requires-clause-old_well_formed : goal.rows_exchanged-requires-clause-old_well_formed
rows_exchanged-requires-clause-old_well_formed g c =
    let opened = (bottom-seen g.P.Plane.widths c.args.self.now c.args.gap.now (map (plain_row g.P.Plane.plain) c.args.rows.now) c.args.branch.now (map (plain_row g.P.Plane.plain) c.rows_under.result.now) (map (plain_row g.P.Plane.plain) c.as_slice.result.now) record {
      nodes_well_formed = c.allocator-alloc.ensures.well_formed;
      part = c.requires.part;
      bottom = c.requires.bottom;
      well_formed = c.requires.well_formed;
    } c.rows_under.ensures (ap (map (plain_row g.P.Plane.plain)) c.as_slice.ensures ∙ c.in_ok-old.ensures)) in
    record { each = opened.well_formed.rows; ordered = opened.well_formed.ordered }

pub rows_exchanged-requires-clause-well_formed : goal.rows_exchanged-requires-clause-well_formed
rows_exchanged-requires-clause-well_formed g c =
    (bottom-well_formed g.P.Plane.widths c.args.self.now c.args.gap.now (map (plain_row g.P.Plane.plain) c.args.rows.now) c.args.branch.now (map (plain_row g.P.Plane.plain) c.as_slice.result.now) record {
      nodes_well_formed = c.allocator-alloc.ensures.well_formed;
      part = c.requires.part;
      bottom = c.requires.bottom;
      well_formed = c.requires.well_formed;
    } (bottom-seen g.P.Plane.widths c.args.self.now c.args.gap.now (map (plain_row g.P.Plane.plain) c.args.rows.now) c.args.branch.now (map (plain_row g.P.Plane.plain) c.rows_under.result.now) (map (plain_row g.P.Plane.plain) c.as_slice.result.now) record {
      nodes_well_formed = c.allocator-alloc.ensures.well_formed;
      part = c.requires.part;
      bottom = c.requires.bottom;
      well_formed = c.requires.well_formed;
    } c.rows_under.ensures (ap (map (plain_row g.P.Plane.plain)) c.as_slice.ensures ∙ c.in_ok-old.ensures))).each

pub returns-then-is_empty-clause-rows : goal.returns-then-is_empty-clause-rows
returns-then-is_empty-clause-rows g c =
    let has = (bottom-has g.P.Plane.widths c.args.self.now c.args.gap.now (map (plain_row g.P.Plane.plain) c.args.rows.now) c.args.branch.now (map (plain_row g.P.Plane.plain) c.as_slice.result.now) (map (plain_row g.P.Plane.plain) c.in_ok-made.made.items) record {
      nodes_well_formed = c.allocator-alloc.ensures.well_formed;
      part = c.requires.part;
      bottom = c.requires.bottom;
      well_formed = c.requires.well_formed;
    } (bottom-seen g.P.Plane.widths c.args.self.now c.args.gap.now (map (plain_row g.P.Plane.plain) c.args.rows.now) c.args.branch.now (map (plain_row g.P.Plane.plain) c.rows_under.result.now) (map (plain_row g.P.Plane.plain) c.as_slice.result.now) record {
      nodes_well_formed = c.allocator-alloc.ensures.well_formed;
      part = c.requires.part;
      bottom = c.requires.bottom;
      well_formed = c.requires.well_formed;
    } c.rows_under.ensures (ap (map (plain_row g.P.Plane.plain)) c.as_slice.ensures ∙ c.in_ok-old.ensures)) c.in_ok-made.ensures.rows) in
    sym has.rows_are ∙ mapped-none (plain_row g.P.Plane.plain) c.in_ok-made.made.items c.is_empty.result c.is_empty.ensures c.if-is_empty.true

pub returns-then-is_empty-clause-out : goal.returns-then-is_empty-clause-out
returns-then-is_empty-clause-out g c =
    taken-opened g.P.Plane.widths c.args.self.now c.args.branch.now.node.0 c.args.branch.now.first c.args.branch.now.second (Rows (map (plain_row g.P.Plane.plain) c.as_slice.result.now)) c.args.gap.now (map (plain_row g.P.Plane.plain) c.args.out.now.items) (map (plain_row g.P.Plane.plain) c.rows_exchanged.new.out.items)
    (bottom-seen g.P.Plane.widths c.args.self.now c.args.gap.now (map (plain_row g.P.Plane.plain) c.args.rows.now) c.args.branch.now (map (plain_row g.P.Plane.plain) c.rows_under.result.now) (map (plain_row g.P.Plane.plain) c.as_slice.result.now) record {
      nodes_well_formed = c.allocator-alloc.ensures.well_formed;
      part = c.requires.part;
      bottom = c.requires.bottom;
      well_formed = c.requires.well_formed;
    } c.rows_under.ensures (ap (map (plain_row g.P.Plane.plain)) c.as_slice.ensures ∙ c.in_ok-old.ensures)) c.in_ok-made.ensures.out

pub rows_packed-requires-clause-well_formed : goal.rows_packed-requires-clause-well_formed
rows_packed-requires-clause-well_formed g c =
    let has = (bottom-has g.P.Plane.widths c.args.self.now c.args.gap.now (map (plain_row g.P.Plane.plain) c.args.rows.now) c.args.branch.now (map (plain_row g.P.Plane.plain) c.as_slice.result.now) (map (plain_row g.P.Plane.plain) c.in_ok-made.made.items) record {
      nodes_well_formed = c.allocator-alloc.ensures.well_formed;
      part = c.requires.part;
      bottom = c.requires.bottom;
      well_formed = c.requires.well_formed;
    } (bottom-seen g.P.Plane.widths c.args.self.now c.args.gap.now (map (plain_row g.P.Plane.plain) c.args.rows.now) c.args.branch.now (map (plain_row g.P.Plane.plain) c.rows_under.result.now) (map (plain_row g.P.Plane.plain) c.as_slice.result.now) record {
      nodes_well_formed = c.allocator-alloc.ensures.well_formed;
      part = c.requires.part;
      bottom = c.requires.bottom;
      well_formed = c.requires.well_formed;
    } c.rows_under.ensures (ap (map (plain_row g.P.Plane.plain)) c.as_slice.ensures ∙ c.in_ok-old.ensures)) c.in_ok-made.ensures.rows) in
    subst (λ (r : List _). IsWellFormedRows g.P.Plane.widths (map (plain_row g.P.Plane.plain) r)) (sym c.as_slice-2.ensures) (record { each = has.well_formed.rows; ordered = has.well_formed.ordered })

pub returns-clause-rows : goal.returns-clause-rows
returns-clause-rows g c =
    packed-has g.P.Plane.widths c.args.self.now c.rows_packed.new.self (height_of g.P.Plane.widths c.args.self.now c.args.branch.now.node.0) (exchanged c.args.gap.now (map (plain_row g.P.Plane.plain) c.args.rows.now) (branch_rows (rows_table c.args.self.now) c.args.branch.now)) (Rows (map (plain_row g.P.Plane.plain) c.in_ok-made.made.items)) c.in_ok-branch.branch
    (bottom-has g.P.Plane.widths c.args.self.now c.args.gap.now (map (plain_row g.P.Plane.plain) c.args.rows.now) c.args.branch.now (map (plain_row g.P.Plane.plain) c.as_slice.result.now) (map (plain_row g.P.Plane.plain) c.in_ok-made.made.items) record {
      nodes_well_formed = c.allocator-alloc.ensures.well_formed;
      part = c.requires.part;
      bottom = c.requires.bottom;
      well_formed = c.requires.well_formed;
    } (bottom-seen g.P.Plane.widths c.args.self.now c.args.gap.now (map (plain_row g.P.Plane.plain) c.args.rows.now) c.args.branch.now (map (plain_row g.P.Plane.plain) c.rows_under.result.now) (map (plain_row g.P.Plane.plain) c.as_slice.result.now) record {
      nodes_well_formed = c.allocator-alloc.ensures.well_formed;
      part = c.requires.part;
      bottom = c.requires.bottom;
      well_formed = c.requires.well_formed;
    } c.rows_under.ensures (ap (map (plain_row g.P.Plane.plain)) c.as_slice.ensures ∙ c.in_ok-old.ensures)) c.in_ok-made.ensures.rows)
    (subst (λ (r : List _). IsPacked g.P.Plane.widths c.args.self.now c.rows_packed.new.self (Rows (map (plain_row g.P.Plane.plain) r)) c.in_ok-branch.branch) c.as_slice-2.ensures c.in_ok-branch.ensures.packed)

pub returns-clause-out : goal.returns-clause-out
returns-clause-out g c =
    taken-opened g.P.Plane.widths c.args.self.now c.args.branch.now.node.0 c.args.branch.now.first c.args.branch.now.second (Rows (map (plain_row g.P.Plane.plain) c.as_slice.result.now)) c.args.gap.now (map (plain_row g.P.Plane.plain) c.args.out.now.items) (map (plain_row g.P.Plane.plain) c.rows_exchanged.new.out.items)
    (bottom-seen g.P.Plane.widths c.args.self.now c.args.gap.now (map (plain_row g.P.Plane.plain) c.args.rows.now) c.args.branch.now (map (plain_row g.P.Plane.plain) c.rows_under.result.now) (map (plain_row g.P.Plane.plain) c.as_slice.result.now) record {
      nodes_well_formed = c.allocator-alloc.ensures.well_formed;
      part = c.requires.part;
      bottom = c.requires.bottom;
      well_formed = c.requires.well_formed;
    } c.rows_under.ensures (ap (map (plain_row g.P.Plane.plain)) c.as_slice.ensures ∙ c.in_ok-old.ensures)) c.in_ok-made.ensures.out
