-- The documents and the links are not looked at.
use Rattle.std.proofs.Common.{◌≡◌, length, true}
use Rattle.std.specs.Prelude.{IfOk, IfSome, IfNone}
use Rattle.febe_data.specs.Plain.{plain_spec}
use Rattle.world_rules.specs.Refusals.{is_too_long}
use Rattle.world_rules.specs.Relation.{diagonals}
use Rattle.world_rows.proofs.Turns.{turned_has}
use Rattle.world_rows.proofs.turned.TurnedWorldFind.diagonals.Goals as goal

pub returns-clause-value : goal.returns-clause-value
returns-clause-value g c view of = turned_has (λ v. IfOk c.diagonals.result (λ found. IfSome found (λ made. made.items ≡ diagonals v.world (plain_spec c.args.left.now) (plain_spec c.args.right.now)))) of.base view of.turned (c.diagonals.ensures.value of.base of.stood)

pub returns-clause-many : goal.returns-clause-many
returns-clause-many g c view of = turned_has (λ v. IfOk c.diagonals.result (λ found. IfNone found (is_too_long (length (diagonals v.world (plain_spec c.args.left.now) (plain_spec c.args.right.now))) ≡ true))) of.base view of.turned (c.diagonals.ensures.many of.base of.stood)
