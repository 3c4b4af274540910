use Rattle.std.proofs.Common.{map, sym, subst}
use Rattle.enfilade_core.specs.Axes.{InOrder}
use Rattle.enfilade_core.specs.Plain.{plain_row}
use Rattle.enfilade_core.proofs.ExchangeMiddle.{rows-under_well_formed}
use Rattle.enfilade_core.proofs.KeptBottom.{under-there, under-well_formed, kept-may_stand, kept-rows, kept-none, kept-taken}
use Rattle.enfilade_core.proofs.arena.Arena.bottom_kept.Goals as goal

pub rows_kept-requires-clause-ordered : goal.rows_kept-requires-clause-ordered
rows_kept-requires-clause-ordered g c =
    subst InOrder (sym c.rows_under.ensures) (rows-under_well_formed g.P.Plane.widths c.args.self.now c.args.branch.now.node.0 c.allocator-alloc.ensures.well_formed c.requires.part.branch.below c.requires.bottom).ordered

pub rows_kept-requires-clause-there : goal.rows_kept-requires-clause-there
rows_kept-requires-clause-there g c = under-there g.P.Plane.plain g.P.Plane.widths c.args.self.now c.args.gap.now c.args.rows.now c.args.branch.now c.rows_under.result.now record {
  nodes_well_formed = c.allocator-alloc.ensures.well_formed;
  part = c.requires.part;
  bottom = c.requires.bottom;
  well_formed = c.requires.well_formed;
} c.rows_under.ensures

pub rows_kept-requires-clause-well_formed : goal.rows_kept-requires-clause-well_formed
rows_kept-requires-clause-well_formed g c = (under-well_formed g.P.Plane.plain g.P.Plane.widths c.args.self.now c.args.gap.now c.args.rows.now c.args.branch.now c.rows_under.result.now record {
  nodes_well_formed = c.allocator-alloc.ensures.well_formed;
  part = c.requires.part;
  bottom = c.requires.bottom;
  well_formed = c.requires.well_formed;
} c.rows_under.ensures).each

pub returns-then-is_empty-clause-rows : goal.returns-then-is_empty-clause-rows
returns-then-is_empty-clause-rows g c = kept-none g.P.Plane.plain g.P.Plane.widths c.args.self.now c.args.gap.now c.args.rows.now c.args.branch.now c.rows_under.result.now c.in_ok-made.made.items c.is_empty.result record {
  at = record {
    nodes_well_formed = c.allocator-alloc.ensures.well_formed;
    part = c.requires.part;
    bottom = c.requires.bottom;
    well_formed = c.requires.well_formed;
  };
  under_is = c.rows_under.ensures;
  keeps = c.requires.keeps;
  is = c.in_ok-made.ensures.rows;
} c.is_empty.ensures c.if-is_empty.true

pub returns-then-is_empty-clause-out : goal.returns-then-is_empty-clause-out
returns-then-is_empty-clause-out g c = kept-taken g.P.Plane.plain g.P.Plane.widths c.args.self.now c.args.gap.now c.args.rows.now c.args.branch.now c.rows_under.result.now (map (plain_row g.P.Plane.plain) c.args.out.now.items) (map (plain_row g.P.Plane.plain) c.rows_kept.new.out.items) record {
  nodes_well_formed = c.allocator-alloc.ensures.well_formed;
  part = c.requires.part;
  bottom = c.requires.bottom;
  well_formed = c.requires.well_formed;
} c.rows_under.ensures c.in_ok-made.ensures.out

pub placed-requires : goal.placed-requires
placed-requires g c = rw (c.copy.ensures, c.copy-2.ensures) (kept-may_stand g.P.Plane.plain g.P.Plane.widths g.met.P.Plane.widths_stay c.args.self.now c.args.gap.now c.args.rows.now c.args.branch.now c.rows_under.result.now c.in_ok-made.made.items c.is_empty.result record {
  at = record {
    nodes_well_formed = c.allocator-alloc.ensures.well_formed;
    part = c.requires.part;
    bottom = c.requires.bottom;
    well_formed = c.requires.well_formed;
  };
  under_is = c.rows_under.ensures;
  keeps = c.requires.keeps;
  is = c.in_ok-made.ensures.rows;
} c.is_empty.ensures c.if-is_empty.false)

pub returns-clause-rows : goal.returns-clause-rows
returns-clause-rows g c = kept-rows g.P.Plane.plain g.P.Plane.widths c.args.self.now c.placed.new.self c.args.gap.now c.args.rows.now c.args.branch.now c.rows_under.result.now c.in_ok-made.made.items c.copy.result c.copy-2.result c.in_ok-packed.packed record {
  at = record {
    nodes_well_formed = c.allocator-alloc.ensures.well_formed;
    part = c.requires.part;
    bottom = c.requires.bottom;
    well_formed = c.requires.well_formed;
  };
  under_is = c.rows_under.ensures;
  keeps = c.requires.keeps;
  is = c.in_ok-made.ensures.rows;
} c.copy.ensures c.copy-2.ensures c.in_ok-packed.ensures.placed

pub returns-clause-out : goal.returns-clause-out
returns-clause-out g c = kept-taken g.P.Plane.plain g.P.Plane.widths c.args.self.now c.args.gap.now c.args.rows.now c.args.branch.now c.rows_under.result.now (map (plain_row g.P.Plane.plain) c.args.out.now.items) (map (plain_row g.P.Plane.plain) c.rows_kept.new.out.items) record {
  nodes_well_formed = c.allocator-alloc.ensures.well_formed;
  part = c.requires.part;
  bottom = c.requires.bottom;
  well_formed = c.requires.well_formed;
} c.rows_under.ensures c.in_ok-made.ensures.out
