use Rattle.tumbler.specs.Places.{IsUpTo}
use Rattle.tumbler.proofs.Tumblers.{difference-is_tumbler}
use Rattle.tumbler.proofs.tumbler.Tumbler.minus.Goals as goal

pub invariant_of-result : goal.invariant_of-result
invariant_of-result c =
    let up_to : IsUpTo c.a.inside.held c.self.inside.held = rw (c.a.view_is, c.self.view_is) c.requires in
    rw c.minus.ensures (difference-is_tumbler c.self.inside.held c.a.inside.held c.self.invariant c.a.invariant up_to)
