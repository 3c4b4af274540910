-- Trees in which no step is allowed, and trees as nodes are added.
use Rattle.std.proofs.Common.{◌≡◌, ◌≢◌, ℕ, zero, suc, ◌+◌, ◌^◌, ◌<◌, ◌≤◌, ◌||◌, leb, ltb, eqb, false, List, [], ◌∷◌, ◌++◌, length, refl, arith, ap, ◌∙◌, sym, subst, inl, inr}
use Rattle.std.proofs.Math.Nat.{two-pow-succ}
use Rattle.std.specs.List.{All, list_any}
use Rattle.std.proofs.lemmas.List.{length-map, length-append, get_or_append_left}
use Rattle.std.proofs.lemmas.Bool.{or_parts, cases_lt}
use Rattle.std.proofs.lemmas.Bool.Decides.{nat_tests}
use Rattle.std.proofs.lemmas.List.Elements.{All-head, All-tail, All-nil, All-cons}
use Rattle.enfilade_core.specs.declared.tree.Row.{Row}
use Rattle.enfilade_core.specs.declared.tree.Branch.{Branch}
use Rattle.enfilade_core.specs.declared.balance_state.BalanceState.{BalanceState}
use Rattle.enfilade_core.specs.declared.summary.Summary.{Summary}
use Rattle.enfilade_core.specs.Rows.{Shape, Rows, Branches, moved, branch_rows, rows_in, rows_table, rows_of, node_at}
use Rattle.enfilade_core.specs.Axes.{Widths}
use Rattle.enfilade_core.specs.WellFormed.{NamesBelow, IsWellFormed, AreWellFormed}
use Rattle.enfilade_core.specs.Summary.{no_summary, summary_in, summaries, height_of, depth_of}
use Rattle.enfilade_core.specs.Exchange.{Grows}
use Rattle.enfilade_core.specs.BalanceState.{split_above, has_merge, has_lone_child, balance_states, balance_states_below, balance_state_in, balance_state_below, balance_state_of, root_debt}
use Rattle.enfilade_core.proofs.Heights.{rows_height}
use Rattle.enfilade_core.proofs.Parts.{names_below, rows-said, summary-said, well_formed-now}
use Rattle.enfilade_core.proofs.ExchangeGrown.{flat_rows}
use Rattle.enfilade_core.proofs.ExchangeNodes.{level-height}
use Rattle.enfilade_balance.specs.Laws.{BalanceStatesOfChildren, DebtsStay, StepsAreCounted, start, wait, step, SettledTreesAreFull}
use Rattle.enfilade_balance.proofs.Owed.{balance_state-said, balance_state-grown}
use Rattle.enfilade_balance.proofs.Rooting.{same-debt}

-- ---- as nodes are added

pub debts-stay : {L : Type 0} (w : Widths L) (nodes : List (Shape L)) → AreWellFormed w nodes → DebtsStay nodes
debts-stay {L} w nodes well_formed more k lt =
    let grows : Grows nodes (nodes ++ more) = record { more = more; is = refl } in
    let here : node_at (nodes ++ more) k ≡ node_at nodes k = get_or_append_left nodes more (Rows []) k lt in (
      ap (root_debt (balance_states (nodes ++ more))) here ∙ same-debt w nodes (nodes ++ more) (node_at nodes k) grows (well_formed-now w nodes k well_formed lt),
      ap (λ (s : BalanceState). s.allows || has_lone_child (node_at (nodes ++ more) k)) (balance_state-grown nodes (nodes ++ more) k grows lt)
          ∙ ap (λ (node : Shape L). (balance_state_of nodes k).allows || has_lone_child node) here,
    )

-- ---- steps in turn

pub steps-counted : {L : Type 0} (nodes : List (Shape L)) → StepsAreCounted nodes
steps-counted nodes root now at steps start = omega arith
steps-counted nodes root new at steps (wait {now = now} run grows same) = let before = steps-counted nodes root now at steps run in omega (arith, before, same)
steps-counted nodes root new after next (step {now = now} {at = at} {steps = steps} run is) = let before = steps-counted nodes root now at steps run in omega (arith, before, is.lowers)

-- ---- node by node

pub balance_states-of-children : {L : Type 0} (w : Widths L) (nodes : List (Shape L)) → AreWellFormed w nodes → BalanceStatesOfChildren nodes
balance_states-of-children w nodes well_formed k lt = balance_state-said w nodes k well_formed lt

-- ---- trees in which no step is allowed

-- where no step is allowed at or under a node and it has 4 children or more, it has many leaves
abbrev IsFull : {L : Type 0} → List (Shape L) → ℕ → ℕ → Type 0
IsFull nodes height k = (balance_state_of nodes k).allows ≡ false → 4 ≤ (balance_state_of nodes k).children → 2 ^ (height + 2) ≤ length (rows_of nodes k)

length-first : {L : Type 0} (nodes : List (Shape L)) (branch : Branch) (branches : List Branch) → length (flat_rows nodes (branch ∷ branches)) ≡ length (rows_of nodes branch.node.0) + length (flat_rows nodes branches)
length-first nodes branch branches =
    length-append (branch_rows (rows_table nodes) branch) (flat_rows nodes branches) ∙ ap (λ (n : ℕ). n + length (flat_rows nodes branches)) (length-map (rows_of nodes branch.node.0) (moved branch.first branch.second))

-- of two neighbours that may not be merged one has 4 children or more
over_six : (n : ℕ) → leb n 6 ≡ false → 6 < n
over_six n e = grind (arith, nat_tests)

pair-full : {L : Type 0} (nodes : List (Shape L)) (height : ℕ) (a b : Branch) → IsFull nodes height a.node.0 → IsFull nodes height b.node.0 → (balance_state_of nodes a.node.0).allows ≡ false → (balance_state_of nodes b.node.0).allows ≡ false
    → leb ((balance_state_of nodes a.node.0).children + (balance_state_of nodes b.node.0).children) 6 ≡ false → 2 ^ (height + 2) ≤ length (rows_of nodes a.node.0) + length (rows_of nodes b.node.0)
pair-full nodes height a b f g p q apart =
    let many = over_six ((balance_state_of nodes a.node.0).children + (balance_state_of nodes b.node.0).children) apart in
    elim (cases_lt (balance_state_of nodes a.node.0).children 4) [
      | inl few ↦ let full = g q (omega (arith, many, few)) in omega (arith, full)
      | inr enough ↦ let full = f p enough in omega (arith, full)
    ]

record AreCalm (below : List BalanceState) : Type 0 where
  still : list_any (λ s. s.allows) below ≡ false
  apart : has_merge below ≡ false

calm-rest : (a b : BalanceState) (more : List BalanceState) → AreCalm (a ∷ b ∷ more) → AreCalm (b ∷ more)
calm-rest a b more calm = record {
  still = (or_parts a.allows (list_any (λ s. s.allows) (b ∷ more)) calm.still).1;
  apart = (or_parts (leb (a.children + b.children) 6) (has_merge (b ∷ more)) calm.apart).1;
}

calm-last : (a : BalanceState) → AreCalm (a ∷ []) → AreCalm []
calm-last a calm = record { still = refl; apart = refl }

calm-tail : (a : BalanceState) (more : List BalanceState) → AreCalm (a ∷ more) → AreCalm more
calm-tail a [] calm = calm-last a calm
calm-tail a (b ∷ more) calm = calm-rest a b more calm

two-full : {L : Type 0} (nodes : List (Shape L)) (height : ℕ) (branches : List Branch) → All (λ b. IsFull nodes height b.node.0) branches → AreCalm (balance_states_below (balance_states nodes) branches) → 2 ≤ length branches → 2 ^ (height + 2) ≤ length (flat_rows nodes branches)
two-full nodes height [] full calm two = absurd (omega arith)
two-full nodes height (a ∷ []) full calm two = absurd (omega arith)
two-full nodes height (a ∷ b ∷ more) full calm two =
    let P : Branch → Type 0 = λ x. IsFull nodes height x.node.0 in
    let told = balance_states nodes in
    let rest = balance_states_below told more in
    let sa = balance_state_of nodes a.node.0 in
    let sb = balance_state_of nodes b.node.0 in
    let one = or_parts sa.allows (list_any (λ s. s.allows) (sb ∷ rest)) calm.still in
    let next = or_parts sb.allows (list_any (λ s. s.allows) rest) one.1 in
    let apart = (or_parts (leb (sa.children + sb.children) 6) (has_merge (sb ∷ rest)) calm.apart).0 in
    let pair = pair-full nodes height a b (All-head P a (b ∷ more) full) (All-head P b more (All-tail P a (b ∷ more) full)) one.0 next.0 apart in
    let first = length-first nodes a (b ∷ more) in
    let second = length-first nodes b more in
    omega (arith, pair, first, second)

four-full : {L : Type 0} (nodes : List (Shape L)) (height : ℕ) (branches : List Branch) → All (λ b. IsFull nodes height b.node.0) branches → AreCalm (balance_states_below (balance_states nodes) branches) → 4 ≤ length branches → 2 ^ (height + 2) + 2 ^ (height + 2) ≤ length (flat_rows nodes branches)
four-full nodes height [] full calm four = absurd (omega arith)
four-full nodes height (a ∷ []) full calm four = absurd (omega arith)
four-full nodes height (a ∷ b ∷ more) full calm four =
    let P : Branch → Type 0 = λ x. IsFull nodes height x.node.0 in
    let told = balance_states nodes in
    let rest = balance_states_below told more in
    let sa = balance_state_of nodes a.node.0 in
    let sb = balance_state_of nodes b.node.0 in
    let one = or_parts sa.allows (list_any (λ s. s.allows) (sb ∷ rest)) calm.still in
    let next = or_parts sb.allows (list_any (λ s. s.allows) rest) one.1 in
    let apart = (or_parts (leb (sa.children + sb.children) 6) (has_merge (sb ∷ rest)) calm.apart).0 in
    let pair = pair-full nodes height a b (All-head P a (b ∷ more) full) (All-head P b more (All-tail P a (b ∷ more) full)) one.0 next.0 apart in
    let others = two-full nodes height more (All-tail P b more (All-tail P a (b ∷ more) full)) (calm-tail sb rest (calm-tail sa (sb ∷ rest) calm)) (omega (arith, four)) in
    let first = length-first nodes a (b ∷ more) in
    let second = length-first nodes b more in
    omega (arith, pair, others, first, second)

full-children : {L : Type 0} (w : Widths L) (nodes : List (Shape L)) (k height : ℕ) → ((j : ℕ) → j < k → IsFull nodes (height_of w nodes j) j) → (branches : List Branch) → All (λ b. b.node.0 < k) branches → All (λ b. height_of w nodes b.node.0 ≡ height) branches → All (λ b. IsFull nodes height b.node.0) branches
full-children w nodes k height ih [] named level = All-nil (λ b. IsFull nodes height b.node.0)
full-children w nodes k height ih (branch ∷ branches) named level =
    let N : Branch → Type 0 = λ b. b.node.0 < k in
    let H : Branch → Type 0 = λ b. height_of w nodes b.node.0 ≡ height in
    All-cons (λ b. IsFull nodes height b.node.0) branch branches
    (subst (λ (n : ℕ). IsFull nodes n branch.node.0) (All-head H branch branches level) (ih branch.node.0 (All-head N branch branches named)))
    (full-children w nodes k height ih branches (All-tail N branch branches named) (All-tail H branch branches level))

-- a node of branches: how high it is, its rows and what stands below it
record IsOver {L : Type 0} (w : Widths L) (nodes : List (Shape L)) (k : ℕ) (branches : List Branch) (height : ℕ) : Type 0 where
  high : height_of w nodes k ≡ height + 1
  rows : rows_of nodes k ≡ flat_rows nodes branches
  balance_state : balance_state_of nodes k ≡ balance_state_below (balance_states nodes) branches
  named : All (λ b. b.node.0 < k) branches
  level : All (λ b. height_of w nodes b.node.0 ≡ height) branches
  some : branches ≢ []

over : {L : Type 0} (w : Widths L) (nodes : List (Shape L)) (k : ℕ) (branches : List Branch) → AreWellFormed w nodes → k < length nodes → node_at nodes k ≡ Branches branches → (height : ℕ) × IsOver w nodes k branches height
over {L} w nodes k branches well_formed lt is =
    let now = subst (IsWellFormed w nodes) is (well_formed-now w nodes k well_formed lt) in (
      now.branches.height,
      record {
        high = ap (λ (s : Summary). s.height) (summary-said w nodes k well_formed lt ∙ ap (summary_in w (summaries w nodes)) is) ∙ level-height w nodes now.branches.height branches now.branches.some now.branches.level;
        rows = rows-said w nodes k well_formed lt ∙ ap (rows_in (rows_table nodes)) is;
        balance_state = balance_state-said w nodes k well_formed lt ∙ ap (balance_state_in (balance_states nodes)) is;
        named = subst (NamesBelow k) is (names_below w nodes k well_formed lt);
        level = now.branches.level;
        some = now.branches.some;
      },
    )

calm-below : {L : Type 0} (w : Widths L) (nodes : List (Shape L)) (k : ℕ) (branches : List Branch) (height : ℕ) → IsOver w nodes k branches height → (balance_state_of nodes k).allows ≡ false → AreCalm (balance_states_below (balance_states nodes) branches)
calm-below w nodes k branches height o calm =
    let below = balance_states_below (balance_states nodes) branches in
    let all = or_parts (ltb split_above (length branches) || list_any (λ s. s.allows) below) (has_merge below) (ap (λ (s : BalanceState). s.allows) (sym o.balance_state) ∙ calm) in
    let parts = or_parts (ltb split_above (length branches)) (list_any (λ s. s.allows) below) all.0 in
    record { still = parts.1; apart = all.1 }

twice : (n h : ℕ) → n ≡ h + 1 → 2 ^ (n + 2) ≡ 2 ^ (h + 2) + 2 ^ (h + 2)
twice n h is =
    let next : n + 2 ≡ suc (h + 2) = omega arith in
    ap (λ (m : ℕ). 2 ^ m) next ∙ two-pow-succ (h + 2)

rows-full : {L : Type 0} (w : Widths L) (nodes : List (Shape L)) (k : ℕ) (rows : List (Row L)) → AreWellFormed w nodes → k < length nodes → node_at nodes k ≡ Rows rows → IsFull nodes (height_of w nodes k) k
rows-full w nodes k rows well_formed lt is calm many =
    let low : height_of w nodes k ≡ 0 = ap (λ (s : Summary). s.height) (summary-said w nodes k well_formed lt ∙ ap (summary_in w (summaries w nodes)) is) ∙ rows_height w rows no_summary refl in
    let here = rows-said w nodes k well_formed lt ∙ ap (rows_in (rows_table nodes)) is in
    let count = ap (λ (s : BalanceState). s.children) (balance_state-said w nodes k well_formed lt ∙ ap (balance_state_in (balance_states nodes)) is) in
    let four : 2 ^ (height_of w nodes k + 2) ≡ 4 = ap (λ (n : ℕ). 2 ^ (n + 2)) low in
    let long = ap length here in
    omega (arith, four, long, count, many)

branches-full : {L : Type 0} (w : Widths L) (nodes : List (Shape L)) (k : ℕ) (branches : List Branch) → AreWellFormed w nodes → k < length nodes → node_at nodes k ≡ Branches branches → ((j : ℕ) → j < k → IsFull nodes (height_of w nodes j) j) → IsFull nodes (height_of w nodes k) k
branches-full w nodes k branches well_formed lt is ih calm many =
    let found = over w nodes k branches well_formed lt is in
    let height = found.0 in
    let o = found.1 in
    let count = ap (λ (s : BalanceState). s.children) o.balance_state in
    let all = four-full nodes height branches (full-children w nodes k height ih branches o.named o.level) (calm-below w nodes k branches height o calm) (omega (arith, count, many)) in
    let both = twice (height_of w nodes k) height o.high in
    let long = ap length o.rows in
    omega (arith, all, both, long)

node-full : {L : Type 0} (w : Widths L) (nodes : List (Shape L)) (k : ℕ) (node : Shape L) → AreWellFormed w nodes → k < length nodes → node_at nodes k ≡ node → ((j : ℕ) → j < k → IsFull nodes (height_of w nodes j) j) → IsFull nodes (height_of w nodes k) k
node-full w nodes k (Rows rows) well_formed lt is ih = rows-full w nodes k rows well_formed lt is
node-full w nodes k (Branches branches) well_formed lt is ih = branches-full w nodes k branches well_formed lt is ih

all-full : {L : Type 0} (w : Widths L) (nodes : List (Shape L)) → AreWellFormed w nodes → (n k : ℕ) → k < n → k < length nodes → IsFull nodes (height_of w nodes k) k
all-full w nodes well_formed zero k lt below = absurd (omega arith)
all-full w nodes well_formed (suc n) k lt below = node-full w nodes k (node_at nodes k) well_formed below refl (λ j less. all-full w nodes well_formed n j (omega arith) (omega arith))

not_one : (n : ℕ) → 1 ≤ n → eqb n 1 ≡ false → 2 ≤ n
not_one n some e = grind (arith, nat_tests)

some_long : {A : Type 0} (xs : List A) → xs ≢ [] → 1 ≤ length xs
some_long [] some = absurd (some refl)
some_long (x ∷ xs) some = omega arith

root-full : {L : Type 0} (w : Widths L) (nodes : List (Shape L)) (k : ℕ) (node : Shape L) → AreWellFormed w nodes → k < length nodes → node_at nodes k ≡ node → (balance_state_of nodes k).allows ≡ false → has_lone_child node ≡ false → 2 ≤ depth_of w nodes k → 2 ^ depth_of w nodes k ≤ length (rows_of nodes k)
root-full w nodes k (Rows rows) well_formed lt is calm lone deep =
    let low : height_of w nodes k ≡ 0 = ap (λ (s : Summary). s.height) (summary-said w nodes k well_formed lt ∙ ap (summary_in w (summaries w nodes)) is) ∙ rows_height w rows no_summary refl in
    absurd (omega (arith, low, deep))
root-full w nodes k (Branches branches) well_formed lt is calm lone deep =
    let found = over w nodes k branches well_formed lt is in
    let height = found.0 in
    let o = found.1 in
    let two = not_one (length branches) (some_long branches o.some) lone in
    let all = two-full nodes height branches (full-children w nodes k height (λ j less. all-full w nodes well_formed k j less (omega arith)) branches o.named o.level) (calm-below w nodes k branches height o calm) two in
    let same : depth_of w nodes k ≡ height + 2 = omega (arith, o.high) in
    let power : 2 ^ depth_of w nodes k ≡ 2 ^ (height + 2) = ap (λ (n : ℕ). 2 ^ n) same in
    let long = ap length o.rows in
    omega (arith, all, power, long)

pub settled-full : {L : Type 0} (w : Widths L) (nodes : List (Shape L)) → AreWellFormed w nodes → SettledTreesAreFull w nodes
settled-full w nodes well_formed k lt calm deep =
    let parts = or_parts (balance_state_of nodes k).allows (has_lone_child (node_at nodes k)) calm in
    root-full w nodes k (node_at nodes k) well_formed lt refl parts.0 parts.1 deep
