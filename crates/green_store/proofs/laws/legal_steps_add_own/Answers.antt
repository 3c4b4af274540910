use Rattle.green_store.proofs.Owners.{legal_steps_add_own}
use Rattle.green_store.proofs.laws.legal_steps_add_own.Goals as goal

pub returns : goal.returns
returns c = legal_steps_add_own
