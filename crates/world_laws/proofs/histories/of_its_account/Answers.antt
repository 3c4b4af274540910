use Rattle.world_rules.proofs.Accounts.{of_its_account}
use Rattle.world_laws.proofs.histories.of_its_account.Goals as goal

pub returns : goal.returns
returns c = of_its_account
