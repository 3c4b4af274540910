-- The list has what the set has.
use Rattle.std.proofs.Common.{ℕ, List, subst}
use Rattle.page_chains.specs.inside.Walks.{HasOneMore}
use Rattle.page_chains.proofs.Meeting.{one_more}
use Rattle.page_flush.proofs.spared.Spared.spare.Goals as goal

pub returns-clause-ok : goal.returns-clause-ok
returns-clause-ok c = subst (λ (v : List ℕ). HasOneMore c.args.number v c.insert.new.self.keys) c.self.view_is (one_more c.args.number c.self.inside.numbers.keys c.insert.new.self.keys c.in_ok-insert.ensures.updates.0)
