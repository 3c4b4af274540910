use Rattle.std.proofs.Common.{◌∙◌, ap, sym}
use Rattle.tumbler.specs.Places.{sum}
use Rattle.tumbler.proofs.Before.{up_to_if_false}
use Rattle.enfilade_core.proofs.BesideRows.{whole-moved}
use Rattle.enfilade_core.proofs.arena.Arena.moved_whole.Goals as goal

pub minus-ahead-requires : goal.minus-ahead-requires
minus-ahead-requires g c = up_to_if_false c.args.branch.now.first c.args.gap.now.to (sym c.is_before.ensures.value ∙ c.if-is_before.false)

pub returns : goal.returns
returns g c =
    let to = c.args.gap.now.to in
    let onto = c.args.gap.now.onto in
    let le = up_to_if_false c.args.branch.now.first to (sym c.is_before.ensures.value ∙ c.if-is_before.false) in
    whole-moved g.P.Plane.widths g.met.P.Plane.widths_stay c.args.self.now c.summary-summary.ensures.well_formed c.args.branch.now c.add-first.result to onto c.summary-summary.result.now
    c.summary-summary.ensures.told c.requires.part le (c.add-first.ensures ∙ ap (sum onto) c.minus-ahead.ensures) c.is_covered.ensures.tumbler (c.is_covered.ensures.covered.0 c.if-not-is_covered.false) c.requires.rows
