use Rattle.std.proofs.Common.{◌≡◌, refl, true, false}
use Rattle.std.proofs.lemmas.Bool.{false_from_ne_true}
use Rattle.tumbler.specs.Address.{account_test}
use Rattle.tumbler.proofs.AccountTest.{account_tested}
use Rattle.world_rules.proofs.opening.account_refusal.Goals as goal

pub returns-then-is_account : goal.returns-then-is_account
returns-then-is_account c =
    let yes : account_test c.args.account.now ≡ true = (account_tested c.args.account.now).1 (c.is_account.ensures.0 c.if-is_account.true) in
    rw yes refl

pub returns-else-is_account : goal.returns-else-is_account
returns-else-is_account c =
    let no : account_test c.args.account.now ≡ false = false_from_ne_true (account_test c.args.account.now) (λ t. let yes = c.is_account.ensures.1 ((account_tested c.args.account.now).0 t) in cc) in
    rw no refl
