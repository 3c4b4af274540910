use Rattle.std.proofs.Common.{◌≡◌, take, false}
use Rattle.std.specs.List.{list_any}
use Rattle.enfilade_core.specs.BalanceState.{balance_states, balance_states_below}
use Rattle.enfilade_core.proofs.arena.Arena.allows_below.Given as goal

abbrev pub invariant-loop-branch : goal.invariant-loop-branch
invariant-loop-branch g l = list_any (λ s. s.allows) (take l.branch-index (balance_states_below (balance_states l.self) l.branches)) ≡ false
