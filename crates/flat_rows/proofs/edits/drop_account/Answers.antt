use Rattle.std.proofs.Common.{rules, not, eqb}
use Rattle.std.proofs.lemmas.Fn.{filter_same}
use Rattle.world_rules.specs.declared.rows.AccountRow.{AccountRow}
use Rattle.flat_rows.proofs.edits.drop_account.Goals as goal

pub returns-clause-rows : goal.returns-clause-rows
returns-clause-rows c = filter_same _ (λ (r : AccountRow). not (eqb r.session c.args.session)) _ (λ x b f k. search rules) _ _ c.retain.ensures.filtered
