use Rattle.std.proofs.Common.{◌≡◌, ◌+◌, min, take}
use Rattle.std.specs.List.{sum_by}
use Rattle.enfilade_core.specs.Summary.{most_count}
use Rattle.enfilade_core.specs.BalanceState.{balance_states, balance_states_below}
use Rattle.enfilade_balance.proofs.debts.debt_below.Given as goal

abbrev pub invariant-loop-branch : goal.invariant-loop-branch
invariant-loop-branch g l = l.debt ≡ min (l.owed + sum_by (λ s. s.debt) (take l.branch-index (balance_states_below (balance_states l.arena) l.branches))) most_count
