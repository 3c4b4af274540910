use Rattle.tumbler.specs.Places.{sum}
use Rattle.tumbler.specs.Reach.{lead, HasRoom}
use Rattle.tumbler.proofs.Tumblers.{sum-is_tumbler}
use Rattle.tumbler.proofs.Reaches.{greater-is_tumbler, lead-is_tumbler, lead_fits_if_room}
use Rattle.tumbler.proofs.tumbler.Tumbler.raise_by_moved.Goals as goal

pub invariant_of-self : goal.invariant_of-self
invariant_of-self c =
    let room : HasRoom c.d.inside.held c.reach.inside.held = rw (c.d.view_is, c.reach.view_is) c.requires in
    let moved = sum-is_tumbler c.reach.inside.held (lead c.d.inside.held) c.reach.invariant (lead-is_tumbler c.d.inside.held c.d.invariant) (lead_fits_if_room c.d.inside.held c.reach.inside.held c.d.invariant.small room) in
    rw c.raise_by_moved.ensures (greater-is_tumbler c.self.inside.held (sum c.reach.inside.held (lead c.d.inside.held)) c.self.invariant moved)
