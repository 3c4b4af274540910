use Rattle.tumbler.specs.Places.{comes_before}
use Rattle.std.proofs.Common.{◌∙◌, sym, ap}
use Rattle.enfilade_core.proofs.BesideRows.{origin-past, part-some}
use Rattle.enfilade_core.proofs.PartTests.{part-told}
use Rattle.enfilade_core.proofs.arena.Arena.starts_before.Goals as goal

pub returns-then-not-is_before-clause-value : goal.returns-then-not-is_before-clause-value
returns-then-not-is_before-clause-value g c =
    sym (origin-past g.P.Plane.widths c.args.self.now c.nodes_are_well_formed.ensures c.args.branch.now c.args.at.now c.requires.part (sym c.is_before.ensures.value ∙ c.if-not-is_before.true))

pub returns-then-not-is_before-clause-some : goal.returns-then-not-is_before-clause-some
returns-then-not-is_before-clause-some g c = part-some g.P.Plane.widths c.args.self.now c.args.branch.now c.requires.part

pub returns-clause-value : goal.returns-clause-value
returns-clause-value g c = c.is_before-2.ensures.value ∙ ap (λ p. comes_before p c.args.at.now) c.first_of.ensures.value

pub returns-then-not-is_before-clause-ordered : goal.returns-then-not-is_before-clause-ordered
returns-then-not-is_before-clause-ordered g c = (part-told g.P.Plane.widths g.met.P.Plane.widths_stay c.args.self.now c.nodes_are_well_formed.ensures c.args.branch.now c.requires.part).ordered
