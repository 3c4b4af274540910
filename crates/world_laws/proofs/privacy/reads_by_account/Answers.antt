use Rattle.world_rules.proofs.Publishing.{reads_by_account}
use Rattle.world_laws.proofs.privacy.reads_by_account.Goals as goal

pub returns : goal.returns
returns c = reads_by_account
