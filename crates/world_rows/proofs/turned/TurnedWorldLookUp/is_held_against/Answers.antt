-- The documents and the links are not looked at.
use Rattle.std.proofs.Common.{◌≡◌}
use Rattle.world_rules.specs.World.{is_held_against}
use Rattle.world_rows.proofs.Turns.{turned_has}
use Rattle.world_rows.proofs.turned.TurnedWorldLookUp.is_held_against.Goals as goal

pub returns : goal.returns
returns g c view of = turned_has (λ v. c.is_held_against.result ≡ is_held_against v.world c.args.session c.args.document.now) of.base view of.turned (c.is_held_against.ensures of.base of.stood)
