use Rattle.world_rules.proofs.Accounts.{owns_by_account}
use Rattle.world_laws.proofs.histories.owns_by_account.Goals as goal

pub returns : goal.returns
returns c = owns_by_account
