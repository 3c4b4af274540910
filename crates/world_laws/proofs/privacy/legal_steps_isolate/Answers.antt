use Rattle.world_laws.proofs.Isolated.{legal_steps_isolate}
use Rattle.world_laws.proofs.privacy.legal_steps_isolate.Goals as goal

pub returns : goal.returns
returns c = legal_steps_isolate
