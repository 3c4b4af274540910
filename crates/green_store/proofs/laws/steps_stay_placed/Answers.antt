use Rattle.green_store.proofs.Places.{steps_stay_placed}
use Rattle.green_store.proofs.laws.steps_stay_placed.Goals as goal

pub returns : goal.returns
returns c = steps_stay_placed
