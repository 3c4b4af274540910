use Rattle.world_rules.proofs.Accounts.{sets_accounts}
use Rattle.world_laws.proofs.histories.sets_accounts.Goals as goal

pub returns : goal.returns
returns c = sets_accounts
