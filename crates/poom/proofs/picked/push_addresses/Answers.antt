use Rattle.std.proofs.Common.{refl}
use Rattle.poom.specs.Laid.{part_number}
use Rattle.poom.proofs.Picks.{one_more_address}
use Rattle.poom.proofs.picked.push_addresses.Goals as goal

pub loop-k-preserved : goal.loop-k-preserved
loop-k-preserved c =
    one_more_address (part_number c.args.part) c.args.piece.now.document c.args.piece.now.first c.loop-k.k _ c.args.ids.now.items c.loop-k.ids.items c.push.new.self.items c.address.result c.loop-k.invariant c.address.ensures c.in_ok-push.ensures.ok refl
