use Rattle.std.proofs.Common.{◌∙◌, ◌-◌, length, arith, sym}
use Rattle.enfilade_core.specs.WellFormed.{IsWellFormedPart}
use Rattle.enfilade_core.proofs.Nodes.{node-parts}
use Rattle.enfilade_core.proofs.GoneThrough.{item-well_formed}
use Rattle.enfilade_core.proofs.ExchangeChosen.{chosen-start, chosen-low, chosen-found}
use Rattle.enfilade_core.proofs.arena.Arena.chosen_from_end.Goals as goal

pub starts_before-requires : goal.starts_before-requires
starts_before-requires g c =
    let start = chosen-start g.P.Plane.widths c.args.self.now c.args.branches.now c.args.at.now c.requires.well_formed in
    let last = length c.args.branches.now - 1 in
    record { part = item-well_formed (IsWellFormedPart g.P.Plane.widths c.args.self.now) c.args.branches.now last c.index-branches-last.result (omega (arith, start.some)) c.index-branches-last.is (node-parts g.P.Plane.widths c.args.self.now c.args.branches.now c.requires.well_formed) }

pub returns-then-starts_before-clause-is : goal.returns-then-starts_before-clause-is
returns-then-starts_before-clause-is g c =
    let start = chosen-start g.P.Plane.widths c.args.self.now c.args.branches.now c.args.at.now c.requires.well_formed in
    let n = length c.args.branches.now in
    chosen-found c.args.self.now c.args.branches.now c.args.at.now (n - 1) n
    (chosen-low g.P.Plane.widths c.args.self.now c.args.branches.now c.args.at.now 0 n (n - 1) c.index-branches-last.result start (omega (arith, start.some))
    record { well_formed = c.requires.well_formed; short = omega (arith, start.some); is = c.index-branches-last.is; filled = c.starts_before.ensures.some } (sym c.starts_before.ensures.value ∙ c.if-starts_before.true))
    (omega arith)

pub returns-then-starts_before-clause-here : goal.returns-then-starts_before-clause-here
returns-then-starts_before-clause-here g c =
    let start = chosen-start g.P.Plane.widths c.args.self.now c.args.branches.now c.args.at.now c.requires.well_formed in
    let n = length c.args.branches.now in
    (chosen-low g.P.Plane.widths c.args.self.now c.args.branches.now c.args.at.now 0 n (n - 1) c.index-branches-last.result start (omega (arith, start.some))
    record { well_formed = c.requires.well_formed; short = omega (arith, start.some); is = c.index-branches-last.is; filled = c.starts_before.ensures.some } (sym c.starts_before.ensures.value ∙ c.if-starts_before.true)).here
