use Rattle.world_laws.proofs.Isolation.{isolates}
use Rattle.world_laws.proofs.privacy.isolation.Goals as goal

pub returns : goal.returns
returns c = isolates
