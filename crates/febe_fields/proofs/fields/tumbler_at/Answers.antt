use Rattle.std.proofs.Common.{refl}
use Rattle.febe_fields.proofs.Loop.{ends_badly, tumbler_fails}
use Rattle.febe_fields.proofs.fields.tumbler_at.Goals as goal

pub returns : goal.returns
returns c =
    let bad = rw c.as_slice.ensures at (c.in-Err.ensures.refused.0 refl) in
    tumbler_fails c.args.bytes.now c.in_ok-places.places.items c.in_ok-places.rest.now c.in_ok-rest.rest.now c.in_ok-places.ensures.read c.in_ok-rest.ensures (ends_badly c.in_ok-places.places.items bad c.in_ok-places.ensures.few)
