-- The documents and the links are not looked at.
use Rattle.std.proofs.Common.{◌≡◌, length, map, true}
use Rattle.std.specs.Prelude.{IfOk, IfSome, IfNone, nat_lt}
use Rattle.febe_data.specs.Plain.{plain_spec}
use Rattle.world_rules.specs.Picking.{runs_of}
use Rattle.world_rows.proofs.Turns.{turned_has}
use Rattle.world_rows.proofs.turned.TurnedWorldFind.runs_up_to.Goals as goal

pub returns-clause-runs : goal.returns-clause-runs
returns-clause-runs g c view of = turned_has (λ v. IfOk c.runs_up_to.result (λ found. IfSome found (λ runs. runs.items ≡ runs_of v.world (map plain_spec c.args.specs.now)))) of.base view of.turned (c.runs_up_to.ensures.runs of.base of.stood)

pub returns-clause-many : goal.returns-clause-many
returns-clause-many g c view of = turned_has (λ v. IfOk c.runs_up_to.result (λ found. IfNone found (nat_lt c.args.most (length (runs_of v.world (map plain_spec c.args.specs.now))) ≡ true))) of.base view of.turned (c.runs_up_to.ensures.many of.base of.stood)
