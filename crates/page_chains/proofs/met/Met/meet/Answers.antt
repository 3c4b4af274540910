-- The set has the number where the list has.
use Rattle.std.proofs.Common.{◌≡◌, ℕ, List, not, subst}
use Rattle.page_chains.specs.Chains.{is_in}
use Rattle.page_chains.specs.inside.Walks.{HasOneMore}
use Rattle.page_chains.proofs.Meeting.{fresh_is, one_more}
use Rattle.page_chains.proofs.met.Met.meet.Goals as goal

pub returns-clause-fresh : goal.returns-clause-fresh
returns-clause-fresh c = subst (λ (v : List ℕ). is_in c.args.number v ≡ not c.in_ok-fresh.fresh) c.self.view_is (fresh_is c.args.number c.self.inside.numbers.keys c.in_ok-fresh.fresh c.in_ok-fresh.ensures.added)

pub returns-clause-more : goal.returns-clause-more
returns-clause-more c = subst (λ (v : List ℕ). HasOneMore c.args.number v c.insert.new.self.keys) c.self.view_is (one_more c.args.number c.self.inside.numbers.keys c.insert.new.self.keys c.in_ok-fresh.ensures.updates.0)
