use Rattle.std.proofs.Common.{◌∙◌, ◌-◌, arith, sym}
use Rattle.enfilade_core.specs.WellFormed.{IsWellFormedPart}
use Rattle.enfilade_core.proofs.Nodes.{node-parts}
use Rattle.enfilade_core.proofs.GoneThrough.{item-well_formed}
use Rattle.enfilade_core.proofs.ExchangeChosen.{chosen-none, chosen-low, chosen-high, chosen-found}
use Rattle.enfilade_core.proofs.arena.Arena.chosen.Goals as goal

pub returns-then-last-eq0-clause-is : goal.returns-then-last-eq0-clause-is
returns-then-last-eq0-clause-is g c =
    let none = chosen-none c.args.self.now c.args.branches.now c.args.at.now c.none_from-end.result c.none_from-end.ensures.some c.none_from-end.ensures.short c.none_from-end.ensures.back in
    chosen-found c.args.self.now c.args.branches.now c.args.at.now 0 c.none_from-end.result none (omega (arith, c.if-last-eq0.true))

pub starts_before-requires : goal.starts_before-requires
starts_before-requires g c =
    let last = c.none_from-end.result - 1 in
    record { part = item-well_formed (IsWellFormedPart g.P.Plane.widths c.args.self.now) c.args.branches.now last c.index-branches-last.result (omega (arith, c.none_from-end.ensures.some, c.none_from-end.ensures.short)) c.index-branches-last.is (node-parts g.P.Plane.widths c.args.self.now c.args.branches.now c.requires.well_formed) }

pub returns-then-starts_before : goal.returns-then-starts_before
returns-then-starts_before g c =
    let end = c.none_from-end.result in
    let none = chosen-none c.args.self.now c.args.branches.now c.args.at.now end c.none_from-end.ensures.some c.none_from-end.ensures.short c.none_from-end.ensures.back in
    let low = chosen-low g.P.Plane.widths c.args.self.now c.args.branches.now c.args.at.now 0 end (end - 1) c.index-branches-last.result none (omega (arith, none.some))
    record { well_formed = c.requires.well_formed; short = omega (arith, none.some, none.short); is = c.index-branches-last.is; filled = c.starts_before.ensures.some } (sym c.starts_before.ensures.value ∙ c.if-starts_before.true) in
    record { is = chosen-found c.args.self.now c.args.branches.now c.args.at.now (end - 1) end low (omega arith); here = low.here }

pub chosen_in_front-requires : goal.chosen_in_front-requires
chosen_in_front-requires g c =
    let end = c.none_from-end.result in
    let none = chosen-none c.args.self.now c.args.branches.now c.args.at.now end c.none_from-end.ensures.some c.none_from-end.ensures.short c.none_from-end.ensures.back in
    let high = chosen-high g.P.Plane.widths c.args.self.now c.args.branches.now c.args.at.now 0 end (end - 1) c.index-branches-last.result none (omega (arith, c.if-last-eq0.false))
    record { well_formed = c.requires.well_formed; short = omega (arith, none.some, none.short); is = c.index-branches-last.is; filled = c.starts_before.ensures.some } (sym c.starts_before.ensures.value ∙ c.if-starts_before.false) in
    record { well_formed = c.requires.well_formed; some = high.some; short = high.short; back = high.back }
