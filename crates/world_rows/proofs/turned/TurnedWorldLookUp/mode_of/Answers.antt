-- The documents and the links are not looked at.
use Rattle.std.proofs.Common.{◌≡◌}
use Rattle.world_rules.specs.World.{mode_of}
use Rattle.world_rows.proofs.Turns.{turned_has}
use Rattle.world_rows.proofs.turned.TurnedWorldLookUp.mode_of.Goals as goal

pub returns : goal.returns
returns g c view of = turned_has (λ v. c.mode_of.result ≡ mode_of v.world c.args.session c.args.document.now) of.base view of.turned (c.mode_of.ensures of.base of.stood)
