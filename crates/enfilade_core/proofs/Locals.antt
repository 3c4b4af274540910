-- The tables look at the nodes that are named and at no other.
use Rattle.std.proofs.Common.{◌≡◌, ℕ, ◌+◌, ◌||◌, List, [], ◌∷◌, length, get_or, map, fold, refl, ap, sum_by, ltb}
use Rattle.std.specs.List.{list_any}
use Rattle.tumbler.specs.Places.{sum}
use Rattle.enfilade_core.specs.declared.tree.Row.{Row}
use Rattle.enfilade_core.specs.declared.tree.Branch.{Branch}
use Rattle.enfilade_core.specs.declared.summary.Summary.{Summary}
use Rattle.enfilade_core.specs.declared.balance_state.BalanceState.{BalanceState}
use Rattle.enfilade_core.specs.Rows.{Shape, Rows, Branches, moved, branch_rows, rows_in}
use Rattle.enfilade_core.specs.Axes.{Widths, Axis}
use Rattle.enfilade_core.specs.WellFormed.{NamesBelow, branch_origins, origins_in}
use Rattle.enfilade_core.specs.Summary.{no_summary, summary_in, summary_moved, summary_joined, branch_summary, raised}
use Rattle.enfilade_core.specs.BalanceState.{no_balance_state, balance_state_in, node_debt, split_above, has_merge}
use Rattle.enfilade_core.proofs.Tables.{Agrees, IsLocal, flat_map-alike, map-alike}

rows_same : {L : Type 0} (n : ℕ) (a b : List (List (Row L))) (node : Shape L) → Agrees [] n a b → NamesBelow n node → rows_in a node ≡ rows_in b node
rows_same n a b (Rows rows) same named = refl
rows_same n a b (Branches branches) same named =
    flat_map-alike (branch_rows a) (branch_rows b) n (λ branch lt. ap (map (moved branch.first branch.second)) (same branch.node.0 lt)) branches named

pub rows_local : {L : Type 0} → IsLocal (rows_in {L = L}) []
rows_local = record { same = rows_same }

origins_same : {L : Type 0} (axis : Axis L) (n : ℕ) (a b : List (List (List ℕ))) (node : Shape L) → Agrees [] n a b → NamesBelow n node → origins_in axis a node ≡ origins_in axis b node
origins_same axis n a b (Rows rows) same named = refl
origins_same axis n a b (Branches branches) same named =
    flat_map-alike (branch_origins axis a) (branch_origins axis b) n (λ branch lt. ap (λ (r : List (List ℕ)). axis.origin branch ∷ map (sum (axis.origin branch)) r) (same branch.node.0 lt)) branches named

pub origins_local : {L : Type 0} (axis : Axis L) → IsLocal (origins_in axis) []
origins_local axis = record { same = origins_same axis }

summary_same : {L : Type 0} (w : Widths L) (n : ℕ) (a b : List Summary) (node : Shape L) → Agrees no_summary n a b → NamesBelow n node → summary_in w a node ≡ summary_in w b node
summary_same w n a b (Rows rows) same named = refl
summary_same w n a b (Branches branches) same named =
    ap (λ (parts : List Summary). raised (fold summary_joined no_summary parts))
    (map-alike (branch_summary a) (branch_summary b) n (λ branch lt. ap (summary_moved branch.first branch.second) (same branch.node.0 lt)) branches named)

pub summary_local : {L : Type 0} (w : Widths L) → IsLocal (summary_in w) no_summary
summary_local w = record { same = summary_same w }

abbrev made : List Branch → List BalanceState → BalanceState
made branches below = record {
  children = length branches;
  debt = node_debt (length branches) + sum_by (λ s. s.debt) below;
  allows = ltb split_above (length branches) || list_any (λ s. s.allows) below || has_merge below;
}

balance_state_same : {L : Type 0} (n : ℕ) (a b : List BalanceState) (node : Shape L) → Agrees no_balance_state n a b → NamesBelow n node → balance_state_in a node ≡ balance_state_in b node
balance_state_same n a b (Rows rows) same named = refl
balance_state_same n a b (Branches branches) same named =
    ap (λ (below : List BalanceState). made branches below) (map-alike (λ branch. get_or a branch.node.0 no_balance_state) (λ branch. get_or b branch.node.0 no_balance_state) n (λ branch lt. same branch.node.0 lt) branches named)

pub balance_state_local : {L : Type 0} → IsLocal (balance_state_in {L = L}) no_balance_state
balance_state_local = record { same = balance_state_same }
