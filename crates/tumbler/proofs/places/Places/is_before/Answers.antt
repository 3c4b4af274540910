use Rattle.std.proofs.Common.{arith}
use Rattle.tumbler.proofs.PaddedSteps.{order-skip}
use Rattle.tumbler.proofs.places.Places.is_before.Goals as goal

pub loop-k-init : goal.loop-k-init
loop-k-init c =
    order-skip c.self.inside.len c.self.inside.zeros c.self.inside.cells c.other.inside.len c.other.inside.zeros c.other.inside.cells c.min-first.result c.self.invariant c.other.invariant
    (omega (arith, c.min-first.ensures, c.if-self-other.false)) (omega (arith, c.min-first.ensures, c.min-both.ensures))
