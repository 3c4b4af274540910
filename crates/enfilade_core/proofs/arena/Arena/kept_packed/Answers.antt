use Rattle.std.proofs.Common.{ℕ, List, subst}
use Rattle.enfilade_core.specs.Rows.{Branches}
use Rattle.enfilade_core.specs.Packing.{IsPlaced}
use Rattle.enfilade_core.proofs.AroundMiddle.{around-may_stand, around-packed, around-none}
use Rattle.enfilade_core.proofs.arena.Arena.kept_packed.Goals as goal

pub placed-requires : goal.placed-requires
placed-requires g c =
    rw (c.copy.ensures, c.copy-2.ensures) (around-may_stand g.P.Plane.widths g.met.P.Plane.widths_stay c.args.self.now c.args.branch.now c.args.touched.now c.in_ok-children.children.items c.is_empty.result record {
      nodes_well_formed = c.nodes_are_well_formed.ensures;
      part = c.requires.part;
      inner = c.requires.inner;
      well_formed = c.requires.well_formed;
      within = c.requires.within;
      first_up_to = c.requires.first_up_to;
      second_up_to = c.requires.second_up_to;
      is = c.in_ok-children.ensures;
    } c.is_empty.ensures c.if-is_empty.false)

pub returns-then-is_empty-clause-packed : goal.returns-then-is_empty-clause-packed
returns-then-is_empty-clause-packed g c =
    around-none g.P.Plane.widths c.args.self.now c.args.branch.now c.args.touched.now c.in_ok-children.children.items c.is_empty.result record {
      nodes_well_formed = c.nodes_are_well_formed.ensures;
      part = c.requires.part;
      inner = c.requires.inner;
      well_formed = c.requires.well_formed;
      within = c.requires.within;
      first_up_to = c.requires.first_up_to;
      second_up_to = c.requires.second_up_to;
      is = c.in_ok-children.ensures;
    } c.is_empty.ensures c.if-is_empty.true

pub returns-clause-packed : goal.returns-clause-packed
returns-clause-packed g c =
    let w = g.P.Plane.widths in
    let children = c.in_ok-children.children.items in
    around-packed w c.args.self.now c.placed.new.self c.args.branch.now c.args.touched.now children c.in_ok-made.made record {
      nodes_well_formed = c.nodes_are_well_formed.ensures;
      part = c.requires.part;
      inner = c.requires.inner;
      well_formed = c.requires.well_formed;
      within = c.requires.within;
      first_up_to = c.requires.first_up_to;
      second_up_to = c.requires.second_up_to;
      is = c.in_ok-children.ensures;
    } (subst (λ (x : List ℕ). IsPlaced w c.args.self.now c.placed.new.self (Branches children) x c.args.branch.now.second c.in_ok-made.made) c.copy.ensures
    (subst (λ (x : List ℕ). IsPlaced w c.args.self.now c.placed.new.self (Branches children) c.copy.result x c.in_ok-made.made) c.copy-2.ensures c.in_ok-made.ensures.placed))
