-- The documents and the links are not looked at.
use Rattle.std.proofs.Common.{◌≡◌}
use Rattle.world_rules.specs.World.{text_length}
use Rattle.world_rows.proofs.Turns.{turned_has}
use Rattle.world_rows.proofs.turned.TurnedWorldLookUp.text_length.Goals as goal

pub returns : goal.returns
returns g c view of = turned_has (λ v. c.text_length.result ≡ text_length v.world c.args.document.now) of.base view of.turned (c.text_length.ensures of.base of.stood)
