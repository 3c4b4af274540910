use Rattle.std.proofs.Common.{rules, not}
use Rattle.std.proofs.lemmas.Fn.{filter_same}
use Rattle.world_rules.specs.declared.rows.Row.{Row}
use Rattle.world_rules.specs.Edits.{moves_up}
use Rattle.flat_rows.proofs.edits.keep_staying.Goals as goal

pub returns-clause-rows : goal.returns-clause-rows
returns-clause-rows c = filter_same _ (λ (r : Row). not (moves_up c.args.document.now c.args.n r)) _ (λ x b f k. search rules) _ _ c.retain.ensures.filtered
