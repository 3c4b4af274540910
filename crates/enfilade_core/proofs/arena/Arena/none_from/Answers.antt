use Rattle.std.proofs.Common.{◌∙◌, ◌+◌, ◌-◌, ◌/◌, ◌<◌, length, arith, ap, sym}
use Rattle.tumbler.specs.Places.{comes_before}
use Rattle.enfilade_core.specs.declared.tree.Branch.{Branch}
use Rattle.enfilade_core.specs.WellFormed.{IsWellFormedPart}
use Rattle.enfilade_core.proofs.Nodes.{node-parts}
use Rattle.enfilade_core.proofs.GoneThrough.{item-well_formed}
use Rattle.enfilade_core.proofs.BesideRows.{origin-past, part-some}
use Rattle.enfilade_core.proofs.ExchangeChosen.{chosen-start, chosen-high}
use Rattle.enfilade_core.proofs.arena.Arena.none_from.Goals as goal

pub loop-near-init : goal.loop-near-init
loop-near-init g c =
    let start = chosen-start g.P.Plane.widths c.args.self.now c.args.branches.now c.args.at.now c.requires.well_formed in
    record { some = start.some; none = start }

pub loop-near-preserved-then-is_before : goal.loop-near-preserved-then-is_before
loop-near-preserved-then-is_before g c = record { some = omega (arith, c.loop-near.invariant.some, c.loop-near-test.true); none = c.loop-near.invariant.none }

pub loop-near-preserved : goal.loop-near-preserved
loop-near-preserved g c =
    let so = c.loop-near.invariant in
    let middle = c.loop-near.near + (c.loop-near.far - c.loop-near.near) / 2 in
    let branch = c.index-branches-middle.result in
    let short : middle < length c.args.branches.now = omega (arith, so.some, so.none.short) in
    let part = item-well_formed (IsWellFormedPart g.P.Plane.widths c.args.self.now) c.args.branches.now middle branch short c.index-branches-middle.is (node-parts g.P.Plane.widths c.args.self.now c.args.branches.now c.requires.well_formed) in
    record {
      some = omega (arith, so.some, c.loop-near-test.true);
      none = chosen-high g.P.Plane.widths c.args.self.now c.args.branches.now c.args.at.now 0 c.loop-near.far middle branch so.none (omega (arith, so.some, c.loop-near-test.true))
          record { well_formed = c.requires.well_formed; short = short; is = c.index-branches-middle.is; filled = part-some g.P.Plane.widths c.args.self.now branch part }
          (origin-past g.P.Plane.widths c.args.self.now c.nodes_are_well_formed.ensures branch c.args.at.now part (ap (λ (b : Branch). comes_before b.first c.args.at.now) c.index-branches-middle.is ∙ sym c.is_before.ensures.value ∙ c.if-is_before.false));
    }
