use Rattle.green_store.proofs.Reopened.{one_opening}
use Rattle.green_store.proofs.laws.one_opening.Goals as goal

pub returns : goal.returns
returns c = one_opening c.one_reading.ensures
