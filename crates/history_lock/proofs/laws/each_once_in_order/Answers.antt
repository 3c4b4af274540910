use Rattle.history_lock.proofs.LawsHold.{once_in_order}
use Rattle.history_lock.proofs.laws.each_once_in_order.Goals as goal

pub returns : goal.returns
returns g c = λ origin fixed. once_in_order g.T.Kept.owner g.T.Kept.plays origin fixed
