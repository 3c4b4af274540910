use Rattle.green_store.proofs.Isolations.{steps_isolate}
use Rattle.green_store.proofs.laws.steps_isolate.Goals as goal

pub returns : goal.returns
returns c = steps_isolate
