-- What stands below the branch of a number.
use Rattle.std.proofs.Common.{◌≡◌, ℕ, ◌<◌, List, length, get_or, ap, ◌∙◌, sym}
use Rattle.std.proofs.lemmas.List.{get_or-map}
use Rattle.enfilade_core.specs.declared.tree.Branch.{Branch}
use Rattle.enfilade_core.specs.declared.balance_state.BalanceState.{BalanceState}
use Rattle.enfilade_core.specs.BalanceState.{no_balance_state, balance_states_below, kept_balance_state}

-- as it is of the branch that was read there
pub balance_state-item : (told : List BalanceState) (branches : List Branch) (i : ℕ) (d : Branch) → i < length branches → get_or told (get_or branches i d).node.0 no_balance_state ≡ get_or (balance_states_below told branches) i no_balance_state
balance_state-item told branches i d lt = sym (get_or-map (λ (b : Branch). get_or told b.node.0 no_balance_state) branches i d no_balance_state lt)

-- as it is kept of the branch that was read there
pub below-item : (told : List BalanceState) (branches : List Branch) (i : ℕ) (d : Branch) (s : BalanceState) → i < length branches → s ≡ kept_balance_state (get_or told (get_or branches i d).node.0 no_balance_state) → s ≡ kept_balance_state (get_or (balance_states_below told branches) i no_balance_state)
below-item told branches i d s lt is = is ∙ ap kept_balance_state (balance_state-item told branches i d lt)
