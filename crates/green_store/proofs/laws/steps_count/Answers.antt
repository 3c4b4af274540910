use Rattle.green_store.proofs.Serials.{steps_count}
use Rattle.green_store.proofs.laws.steps_count.Goals as goal

pub returns : goal.returns
returns c = steps_count
