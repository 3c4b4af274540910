use Rattle.world_rules.proofs.Fresh.{inserted_reads}
use Rattle.world_laws.proofs.histories.inserted_reads.Goals as goal

pub returns : goal.returns
returns c = inserted_reads
