-- The documents and the links are not looked at.
use Rattle.std.proofs.Common.{◌≡◌}
use Rattle.world_rules.specs.Holding.{holder}
use Rattle.world_rows.proofs.Turns.{turned_has}
use Rattle.world_rows.proofs.turned.TurnedWorldLookUp.holder_of.Goals as goal

pub returns : goal.returns
returns g c view of = turned_has (λ v. c.holder_of.result ≡ holder v.world c.args.document.now) of.base view of.turned (c.holder_of.ensures of.base of.stood)
