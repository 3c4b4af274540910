use Rattle.tumbler.specs.Places.{Fits}
use Rattle.tumbler.proofs.Tumblers.{sum-is_tumbler}
use Rattle.tumbler.proofs.tumbler.Tumbler.add.Goals as goal

pub invariant_of-result : goal.invariant_of-result
invariant_of-result c =
    let fits : Fits c.self.inside.held c.d.inside.held = rw (c.self.view_is, c.d.view_is) c.requires in
    rw c.plus.ensures (sum-is_tumbler c.self.inside.held c.d.inside.held c.self.invariant c.d.invariant fits)
