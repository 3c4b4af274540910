use Rattle.std.proofs.Common.{◌∙◌}
use Rattle.session_pool.proofs.Standings.{pooled_by_another}
use Rattle.green_store.specs.Marks.{owner_of}
use Rattle.green_listener.proofs.listening.serve_with_rounds.Goals as goal

pub returns-clause-served : goal.returns-clause-served
returns-clause-served g c = record {
  same_lock = c.end_pass.ensures.same_lock;
  pooled = pooled_by_another owner_of _ _ _ _ _ _ _ (c.new_pass-background.ensures.same.1 ∙ c.new_pass-own.ensures.same.1) c.new_pass-own.ensures.made.1 c.serve_beside_rounds-served.ensures.pooled c.end_pass.ensures.taken_in;
}
