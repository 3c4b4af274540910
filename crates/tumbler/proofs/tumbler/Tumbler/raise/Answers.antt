use Rattle.tumbler.proofs.Reaches.{greater-is_tumbler}
use Rattle.tumbler.proofs.tumbler.Tumbler.raise.Goals as goal

pub invariant_of-self : goal.invariant_of-self
invariant_of-self c = rw c.raise.ensures (greater-is_tumbler c.self.inside.held c.other.inside.held c.self.invariant c.other.invariant)
