use Rattle.std.proofs.Common.{◌∙◌, ap, sym}
use Rattle.tumbler.specs.Places.{sum}
use Rattle.tumbler.proofs.Before.{up_to_if_false}
use Rattle.enfilade_core.proofs.SeenMoved.{seen-moves}
use Rattle.enfilade_core.proofs.arena.Arena.moved_seen.Goals as goal

pub minus-ahead-requires : goal.minus-ahead-requires
minus-ahead-requires g c = up_to_if_false c.args.branch.now.first c.args.to.now (sym c.is_before.ensures.value ∙ c.if-is_before.false)

pub returns-clause-moves : goal.returns-clause-moves
returns-clause-moves g c =
    seen-moves g.P.Plane.widths g.met.P.Plane.widths_stay c.args.self.now c.summary-summary.ensures.well_formed c.args.first.now c.args.second.now c.args.to.now c.args.onto.now c.args.branch.now c.add-seen.result c.add-there.result c.summary-summary.result.now c.summary-summary.ensures.told c.requires
    (up_to_if_false c.args.branch.now.first c.args.to.now (sym c.is_before.ensures.value ∙ c.if-is_before.false)) (c.add-seen.ensures ∙ ap (sum c.args.onto.now) c.minus-ahead.ensures) c.add-there.ensures c.is_tumbler.ensures c.is_covered.ensures.tumbler (c.is_covered.ensures.covered.0 c.if-not-is_covered.false)
