use Rattle.std.proofs.Common.{rules, not, eqb}
use Rattle.std.proofs.lemmas.Fn.{filter_same}
use Rattle.green_store.proofs.store.remove.Goals as goal

pub returns : goal.returns
returns c = filter_same _ (λ s. not (eqb s c.args.session)) _ (λ x b f k. search rules) _ _ c.retain.ensures.filtered
