use Rattle.enfilade_core.proofs.Seen.{rows_stay}
use Rattle.enfilade_core.proofs.laws.rows_stay.Goals as goal

pub returns : goal.returns
returns g c = rows_stay c.args.arena.now
