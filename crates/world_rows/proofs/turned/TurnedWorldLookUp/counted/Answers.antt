-- The documents and the links are not looked at.
use Rattle.std.proofs.Common.{◌≡◌}
use Rattle.world_rows.proofs.Turns.{turned_has}
use Rattle.world_rows.proofs.turned.TurnedWorldLookUp.counted.Goals as goal

pub returns : goal.returns
returns g c view of = turned_has (λ v. c.counted.result ≡ v.counted) of.base view of.turned (c.counted.ensures of.base of.stood)
