use Rattle.tumbler.proofs.AccountTest.{account_tested}
use Rattle.tumbler.proofs.laws.account_tested.Goals as goal

pub returns : goal.returns
returns c = account_tested
