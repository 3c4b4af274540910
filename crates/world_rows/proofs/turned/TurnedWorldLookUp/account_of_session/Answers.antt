-- The documents and the links are not looked at.
use Rattle.std.proofs.Common.{◌≡◌}
use Rattle.world_rules.specs.World.{account_of_session}
use Rattle.world_rows.proofs.Turns.{turned_has}
use Rattle.world_rows.proofs.turned.TurnedWorldLookUp.account_of_session.Goals as goal

pub returns : goal.returns
returns g c view of = turned_has (λ v. c.account_of_session.result ≡ account_of_session v.world c.args.session) of.base view of.turned (c.account_of_session.ensures of.base of.stood)
