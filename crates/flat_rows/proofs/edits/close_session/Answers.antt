use Rattle.std.proofs.Common.{rules, not, eqb}
use Rattle.std.proofs.lemmas.Fn.{filter_same}
use Rattle.world_rules.specs.declared.rows.OpenRow.{OpenRow}
use Rattle.flat_rows.proofs.edits.close_session.Goals as goal

pub returns : goal.returns
returns c = filter_same _ (λ (r : OpenRow). not (eqb r.session c.args.session)) _ (λ x b f k. search rules) _ _ c.retain.ensures.filtered
