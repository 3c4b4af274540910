use Rattle.std.proofs.Common.{◌∙◌, ◌+◌, ◌-◌, ◌/◌, arith, sym}
use Rattle.enfilade_core.specs.WellFormed.{IsWellFormedPart}
use Rattle.enfilade_core.proofs.Nodes.{node-parts}
use Rattle.enfilade_core.proofs.GoneThrough.{item-well_formed}
use Rattle.enfilade_core.proofs.ExchangeChosen.{chosen-none, chosen-low, chosen-high, chosen-found}
use Rattle.enfilade_core.proofs.arena.Arena.chosen_in_front.Goals as goal

pub loop-low-init : goal.loop-low-init
loop-low-init g c = chosen-none c.args.self.now c.args.branches.now c.args.at.now c.args.end c.requires.some c.requires.short c.requires.back

pub starts_before-requires : goal.starts_before-requires
starts_before-requires g c =
    let middle = c.loop-low.low + (c.loop-low.high - c.loop-low.low) / 2 in
    record { part = item-well_formed (IsWellFormedPart g.P.Plane.widths c.args.self.now) c.args.branches.now middle c.index-branches-middle.result (omega (arith, c.loop-low.invariant.some, c.loop-low.invariant.short)) c.index-branches-middle.is (node-parts g.P.Plane.widths c.args.self.now c.args.branches.now c.requires.well_formed) }

pub loop-low-preserved-then-starts_before : goal.loop-low-preserved-then-starts_before
loop-low-preserved-then-starts_before g c =
    let so = c.loop-low.invariant in
    let middle = c.loop-low.low + (c.loop-low.high - c.loop-low.low) / 2 in
    chosen-low g.P.Plane.widths c.args.self.now c.args.branches.now c.args.at.now c.loop-low.low c.loop-low.high middle c.index-branches-middle.result so (omega (arith, so.some, c.loop-low-test.true))
    record { well_formed = c.requires.well_formed; short = omega (arith, so.some, so.short); is = c.index-branches-middle.is; filled = c.starts_before.ensures.some } (sym c.starts_before.ensures.value ∙ c.if-starts_before.true)

pub loop-low-preserved : goal.loop-low-preserved
loop-low-preserved g c =
    let so = c.loop-low.invariant in
    let middle = c.loop-low.low + (c.loop-low.high - c.loop-low.low) / 2 in
    chosen-high g.P.Plane.widths c.args.self.now c.args.branches.now c.args.at.now c.loop-low.low c.loop-low.high middle c.index-branches-middle.result so (omega (arith, so.some, c.loop-low-test.true))
    record { well_formed = c.requires.well_formed; short = omega (arith, so.some, so.short); is = c.index-branches-middle.is; filled = c.starts_before.ensures.some } (sym c.starts_before.ensures.value ∙ c.if-starts_before.false)

pub returns-clause-is : goal.returns-clause-is
returns-clause-is g c = chosen-found c.args.self.now c.args.branches.now c.args.at.now c.loop-low.low c.loop-low.high c.loop-low.invariant (omega (arith, c.loop-low-test.false))
