use Rattle.std.proofs.Common.{rules, not}
use Rattle.std.proofs.lemmas.Fn.{filter_same}
use Rattle.world_rules.specs.declared.rows.OpenRow.{OpenRow}
use Rattle.world_rules.specs.World.{opens}
use Rattle.flat_rows.proofs.edits.close_opening.Goals as goal

pub returns-clause-rows : goal.returns-clause-rows
returns-clause-rows c = filter_same _ (λ (r : OpenRow). not (opens c.args.session c.args.document.now r)) _ (λ x b f k. search rules) _ _ c.retain.ensures.filtered
