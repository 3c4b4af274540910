use Rattle.std.proofs.Common.{◌≡◌, take, false}
use Rattle.std.specs.List.{list_any}
use Rattle.enfilade_core.specs.BalanceState.{balance_states, balance_states_below}
use Rattle.enfilade_balance.proofs.finding.allowing.Given as goal

abbrev pub invariant-loop-k : goal.invariant-loop-k
invariant-loop-k g l = list_any (λ s. s.allows) (take l.k (balance_states_below (balance_states l.arena) l.branches)) ≡ false
