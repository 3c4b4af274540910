-- The documents and the links are not looked at.
use Rattle.std.proofs.Common.{◌≡◌, map}
use Rattle.std.specs.Prelude.{IfOk}
use Rattle.febe_data.specs.Plain.{plain_spec, plain_item}
use Rattle.world_rules.specs.Answers.{items_of}
use Rattle.world_rows.proofs.Turns.{turned_has}
use Rattle.world_rows.proofs.turned.TurnedWorldFind.retrieved.Goals as goal

pub returns-clause-items : goal.returns-clause-items
returns-clause-items g c view of = turned_has (λ v. IfOk c.retrieved.result (λ made. map plain_item made.items ≡ items_of v.world (map plain_spec c.args.specs.now))) of.base view of.turned (c.retrieved.ensures.items of.base of.stood)
