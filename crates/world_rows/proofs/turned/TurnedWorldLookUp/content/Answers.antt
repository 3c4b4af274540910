-- The documents and the links are not looked at.
use Rattle.std.proofs.Common.{◌≡◌, length}
use Rattle.world_rows.proofs.Turns.{turned_has}
use Rattle.world_rows.proofs.turned.TurnedWorldLookUp.content.Goals as goal

pub returns : goal.returns
returns g c view of = turned_has (λ v. c.content.result ≡ length v.world.bytes) of.base view of.turned (c.content.ensures of.base of.stood)
