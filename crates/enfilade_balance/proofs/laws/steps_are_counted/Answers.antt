use Rattle.enfilade_balance.proofs.Full.{steps-counted}
use Rattle.enfilade_balance.proofs.laws.steps_are_counted.Goals as goal

pub returns : goal.returns
returns g c = steps-counted c.args.arena.now
