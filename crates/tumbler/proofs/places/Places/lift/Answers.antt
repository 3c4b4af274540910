use Rattle.tumbler.proofs.RaiseSteps.{lift-filled, lift-blank}
use Rattle.tumbler.proofs.places.Places.lift.Goals as goal

pub invariant_of-self : goal.invariant_of-self
invariant_of-self c =
    rw (c.max-self-inside.ensures, c.min-self-inside.ensures)
    (lift-filled c.self.inside.len c.self.inside.zeros c.self.inside.cells c.args.k c.max-place.result c.self.invariant c.requires c.if-place-ne0.true)

pub invariant_of-self-else-place-ne0 : goal.invariant_of-self-else-place-ne0
invariant_of-self-else-place-ne0 c =
    rw c.max-self-inside.ensures
    (lift-blank c.self.inside.len c.self.inside.zeros c.self.inside.cells c.args.k c.args.least c.max-place.result c.self.invariant c.requires c.max-place.ensures c.if-place-ne0.false)
