use Rattle.std.proofs.Common.{◌<◌, length, take}
use Rattle.tumbler.proofs.PaddedSteps.{push-filled, push-blank}
use Rattle.tumbler.proofs.places.Places.push.Goals as goal

pub invariant_of-self : goal.invariant_of-self
invariant_of-self c =
    let room : length (take c.self.inside.len c.self.inside.cells) < 24 = rw c.self.view_is c.requires in
    rw c.min-self-inside.ensures (push-filled c.self.inside.len c.self.inside.zeros c.self.inside.cells c.args.place c.self.invariant room c.if-place-ne0.true)

pub invariant_of-self-else-place-ne0 : goal.invariant_of-self-else-place-ne0
invariant_of-self-else-place-ne0 c =
    let room : length (take c.self.inside.len c.self.inside.cells) < 24 = rw c.self.view_is c.requires in
    push-blank c.self.inside.len c.self.inside.zeros c.self.inside.cells c.args.place c.self.invariant room c.if-place-ne0.false
