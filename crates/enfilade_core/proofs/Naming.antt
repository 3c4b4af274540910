-- What is said of nodes is said of them under other numbers too.
use Rattle.std.proofs.Common.{◌≡◌, ◌∙◌, ℕ, ◌+◌, ◌-◌, ◌==◌, ◌||◌, if◌then◌else◌, List, [], ◌∷◌, ◌++◌, length, map, get_or, fold, ap, refl}
use Rattle.std.specs.Prelude.{All, nat_lt, sum_by}
use Rattle.std.specs.List.{flat_map, list_any}
use Rattle.std.proofs.lemmas.List.{length-map}
use Rattle.std.proofs.lemmas.List.Elements.{All-head, All-tail}
use Rattle.tumbler.specs.Places.{sum}
use Rattle.enfilade_core.specs.declared.tree.Row.{Row}
use Rattle.enfilade_core.specs.declared.tree.Branch.{Branch}
use Rattle.enfilade_core.specs.declared.summary.Summary.{Summary}
use Rattle.enfilade_core.specs.Rows.{Shape, Rows, Branches, moved, branch_rows, rows_in, branches_under}
use Rattle.enfilade_core.specs.Axes.{Widths, Axis}
use Rattle.enfilade_core.specs.WellFormed.{branch_origins, origins_in}
use Rattle.enfilade_core.specs.declared.balance_state.BalanceState.{BalanceState}
use Rattle.enfilade_core.specs.BalanceState.{no_balance_state, balance_states_below, balance_state_in, node_debt, split_above, most_children, lone_child_debt, has_merge, root_debt, has_lone_child}
use Rattle.enfilade_core.specs.Summary.{summary_in, branch_summary, summary_moved, summary_joined, no_summary, raised}
use Rattle.enfilade_core.specs.NewNumbers.{renamed_branch, renamed}

-- what was said of each branch's node is said of the one at its place
abbrev pub SaidThere : {T : Type 0} → (ℕ → ℕ) → T → (there here : List T) → Branch → Type 0
SaidThere place d there here branch = get_or there (place branch.node.0) d ≡ get_or here branch.node.0 d

pub record IsNatural {L T : Type 0} (say : List T → Shape L → T) (d : T) : Type 0 where
  pub same : (place : ℕ → ℕ) (there here : List T) (node : Shape L) → All (SaidThere place d there here) (branches_under node) → say there (renamed place node) ≡ say here node

flat_map-renamed : {B : Type 0} (f g : Branch → List B) (place : ℕ → ℕ) (P : Branch → Type 0) → ((branch : Branch) → P branch → f (renamed_branch place branch) ≡ g branch) → (branches : List Branch) → All P branches
    → flat_map f (map (renamed_branch place) branches) ≡ flat_map g branches
flat_map-renamed f g place P same [] h = refl
flat_map-renamed f g place P same (branch ∷ branches) h =
    ap (λ (r : List _). r ++ flat_map f (map (renamed_branch place) branches)) (same branch (All-head P branch branches h))
    ∙ ap (λ (r : List _). g branch ++ r) (flat_map-renamed f g place P same branches (All-tail P branch branches h))

map-renamed : {B : Type 0} (f g : Branch → B) (place : ℕ → ℕ) (P : Branch → Type 0) → ((branch : Branch) → P branch → f (renamed_branch place branch) ≡ g branch) → (branches : List Branch) → All P branches
    → map f (map (renamed_branch place) branches) ≡ map g branches
map-renamed f g place P same [] h = refl
map-renamed f g place P same (branch ∷ branches) h =
    ap (λ (r : List _). f (renamed_branch place branch) ∷ r) (map-renamed f g place P same branches (All-tail P branch branches h))
    ∙ ap (λ (x : _). x ∷ map g branches) (same branch (All-head P branch branches h))

pub rows_natural : {L : Type 0} → IsNatural (rows_in {L = L}) []
rows_natural = record { same = by }
  where
    by : {L : Type 0} (place : ℕ → ℕ) (there here : List (List (Row L))) (node : Shape L) → All (SaidThere place [] there here) (branches_under node) → rows_in there (renamed place node) ≡ rows_in here node
    by place there here (Rows rows) h = refl
    by place there here (Branches branches) h =
        flat_map-renamed (branch_rows there) (branch_rows here) place (SaidThere place [] there here) (λ branch said. ap (λ (rows : List (Row _)). map (moved branch.first branch.second) rows) said) branches h

-- a branch has its origin where it had it, whatever its node's number is
abbrev pub OriginStays : {L : Type 0} → Axis L → Type 0
OriginStays axis = (place : ℕ → ℕ) (branch : Branch) → axis.origin (renamed_branch place branch) ≡ axis.origin branch

pub origins_natural : {L : Type 0} (axis : Axis L) → OriginStays axis → IsNatural (origins_in axis) []
origins_natural axis stays = record { same = by axis stays }
  where
    by : {L : Type 0} (axis : Axis L) → OriginStays axis → (place : ℕ → ℕ) (there here : List (List (List ℕ))) (node : Shape L) → All (SaidThere place [] there here) (branches_under node) → origins_in axis there (renamed place node) ≡ origins_in axis here node
    by axis stays place there here (Rows rows) h = refl
    by axis stays place there here (Branches branches) h =
        flat_map-renamed (branch_origins axis there) (branch_origins axis here) place (SaidThere place [] there here)
        (λ branch said. ap (λ (o : List ℕ). o ∷ map (sum o) (get_or there (place branch.node.0) [])) (stays place branch) ∙ ap (λ (o : List (List ℕ)). axis.origin branch ∷ map (sum (axis.origin branch)) o) said) branches h

pub summary_natural : {L : Type 0} (w : Widths L) → IsNatural (summary_in w) no_summary
summary_natural w = record { same = by w }
  where
    by : {L : Type 0} (w : Widths L) (place : ℕ → ℕ) (there here : List Summary) (node : Shape L) → All (SaidThere place no_summary there here) (branches_under node) → summary_in w there (renamed place node) ≡ summary_in w here node
    by w place there here (Rows rows) h = refl
    by w place there here (Branches branches) h =
        ap (λ (ss : List Summary). raised (fold summary_joined no_summary ss))
        (map-renamed (branch_summary there) (branch_summary here) place (SaidThere place no_summary there here) (λ branch said. ap (λ (s : Summary). summary_moved branch.first branch.second s) said) branches h)

-- what stands under branches with other numbers
below_natural : (place : ℕ → ℕ) (there here : List BalanceState) (branches : List Branch) → All (SaidThere place no_balance_state there here) branches → balance_states_below there (map (renamed_branch place) branches) ≡ balance_states_below here branches
below_natural place there here branches h =
    map-renamed (λ branch. get_or there branch.node.0 no_balance_state) (λ branch. get_or here branch.node.0 no_balance_state) place (SaidThere place no_balance_state there here) (λ branch said. said) branches h

-- an inner node that is not the root, and the debt of a root, by what stands under the branches
abbrev balance_state_over : ℕ → List BalanceState → BalanceState
balance_state_over children below = record {
  children = children;
  debt = node_debt children + sum_by (λ s. s.debt) below;
  allows = nat_lt split_above children || list_any (λ s. s.allows) below || has_merge below;
}

abbrev debt_over : ℕ → List BalanceState → ℕ
debt_over children below = (children - most_children) + (if children == 1 then lone_child_debt else 0) + sum_by (λ s. s.debt) below

pub balance_state_natural : {L : Type 0} → IsNatural (balance_state_in {L = L}) no_balance_state
balance_state_natural = record { same = by }
  where
    by : {L : Type 0} (place : ℕ → ℕ) (there here : List BalanceState) (node : Shape L) → All (SaidThere place no_balance_state there here) (branches_under node) → balance_state_in there (renamed place node) ≡ balance_state_in here node
    by place there here (Rows rows) h = refl
    by place there here (Branches branches) h =
        ap (λ (n : ℕ). balance_state_over n (balance_states_below there (map (renamed_branch place) branches))) (length-map branches (renamed_branch place))
        ∙ ap (balance_state_over (length branches)) (below_natural place there here branches h)

pub debt_natural : {L : Type 0} (place : ℕ → ℕ) (there here : List BalanceState) (node : Shape L) → All (SaidThere place no_balance_state there here) (branches_under node) → root_debt there (renamed place node) ≡ root_debt here node
debt_natural place there here (Rows rows) h = refl
debt_natural place there here (Branches branches) h =
    ap (λ (n : ℕ). debt_over n (balance_states_below there (map (renamed_branch place) branches))) (length-map branches (renamed_branch place))
    ∙ ap (debt_over (length branches)) (below_natural place there here branches h)

pub lone_natural : {L : Type 0} (place : ℕ → ℕ) (node : Shape L) → has_lone_child (renamed place node) ≡ has_lone_child node
lone_natural place (Rows rows) = refl
lone_natural place (Branches branches) = ap (λ (n : ℕ). n == 1) (length-map branches (renamed_branch place))

-- other numbers that agree on the branches of a node
pub renamed_alike : {L : Type 0} (f g : ℕ → ℕ) (node : Shape L) → All (λ (branch : Branch). f branch.node.0 ≡ g branch.node.0) (branches_under node) → renamed f node ≡ renamed g node
renamed_alike f g (Rows rows) h = refl
renamed_alike f g (Branches branches) h = ap Branches (by branches h)
  where
    by : (bs : List Branch) → All (λ (branch : Branch). f branch.node.0 ≡ g branch.node.0) bs → map (renamed_branch f) bs ≡ map (renamed_branch g) bs
    by [] h = refl
    by (b ∷ bs) h =
        let P : Branch → Type 0 = λ b. f b.node.0 ≡ g b.node.0 in
        ap (λ (k : ℕ). record b { node = record { 0 = k } } ∷ map (renamed_branch f) bs) (All-head P b bs h) ∙ ap (λ (r : List Branch). renamed_branch g b ∷ r) (by bs (All-tail P b bs h))
