use Rattle.std.proofs.Common.{take}
use Rattle.tumbler.specs.Places.{EndsWell}
use Rattle.tumbler.specs.Reach.{lead}
use Rattle.tumbler.proofs.RaiseSteps.{lead-missing, none-raised}
use Rattle.tumbler.proofs.places.Places.raise_by_lead.Goals as goal

pub returns-else-place-lt24 : goal.returns-else-place-lt24
returns-else-place-lt24 c =
    let ends : EndsWell (take c.place.inside.len c.place.inside.cells) = rw c.place.view_is c.requires.ends in
    rw (← c.place.view_is)
    (none-raised c.args.self.now (lead (take c.place.inside.len c.place.inside.cells)) (lead-missing c.place.inside.len c.place.inside.zeros c.place.inside.cells c.place.invariant c.if-place-lt24.false ends))
