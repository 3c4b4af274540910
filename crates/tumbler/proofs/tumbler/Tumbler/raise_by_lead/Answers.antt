use Rattle.tumbler.specs.Reach.{lead}
use Rattle.tumbler.proofs.Reaches.{greater-is_tumbler, lead-is_tumbler}
use Rattle.tumbler.proofs.tumbler.Tumbler.raise_by_lead.Goals as goal

pub invariant_of-self : goal.invariant_of-self
invariant_of-self c =
    rw c.raise_by_lead.ensures (greater-is_tumbler c.self.inside.held (lead c.place.inside.held) c.self.invariant (lead-is_tumbler c.place.inside.held c.place.invariant))
