-- The documents and the links are not looked at.
use Rattle.std.proofs.Common.{◌≡◌}
use Rattle.world_rules.specs.Readable.{is_published}
use Rattle.world_rows.proofs.Turns.{turned_has}
use Rattle.world_rows.proofs.turned.TurnedWorldLookUp.is_published.Goals as goal

pub returns : goal.returns
returns g c view of = turned_has (λ v. c.is_published.result ≡ is_published v.world c.args.document.now) of.base view of.turned (c.is_published.ensures of.base of.stood)
