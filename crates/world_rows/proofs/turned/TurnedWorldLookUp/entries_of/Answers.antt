-- The documents and the links are not looked at.
use Rattle.std.proofs.Common.{◌≡◌}
use Rattle.world_rules.specs.FlatView.{entries_in}
use Rattle.world_rows.proofs.Turns.{turned_has}
use Rattle.world_rows.proofs.turned.TurnedWorldLookUp.entries_of.Goals as goal

pub returns : goal.returns
returns g c view of = turned_has (λ v. c.entries_of.result ≡ entries_in v.sessions c.args.session) of.base view of.turned (c.entries_of.ensures of.base of.stood)
