use Rattle.tumbler.proofs.Reaches.{greater-is_tumbler}
use Rattle.tumbler.proofs.tumbler.Tumbler.greater.Goals as goal

pub invariant_of-result : goal.invariant_of-result
invariant_of-result c = rw c.raise.ensures (greater-is_tumbler c.self.inside.held c.other.inside.held c.self.invariant c.other.invariant)
