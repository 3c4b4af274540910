use Rattle.std.proofs.Common.{◌≡◌, take, false}
use Rattle.enfilade_core.specs.BalanceState.{has_merge, balance_states, balance_states_below}
use Rattle.enfilade_core.proofs.arena.Arena.has_merge.Given as goal

abbrev pub invariant-loop-k : goal.invariant-loop-k
invariant-loop-k g l = has_merge (take l.k (balance_states_below (balance_states l.self) l.branches)) ≡ false
