-- How high a node is: no higher than its number, nothing where it has rows, else one more than each child.
use Rattle.std.proofs.Common.{◌≡◌, ℕ, zero, suc, ◌+◌, ◌<◌, ◌≤◌, List, [], ◌∷◌, length, get_or, map, fold, refl, arith, ap, sym, subst, ◌∙◌}
use Rattle.std.specs.List.{All}
use Rattle.std.proofs.lemmas.List.Elements.{All-head, All-tail, All-nil, All-cons, All-weaker}
use Rattle.enfilade_core.specs.declared.tree.Row.{Row}
use Rattle.enfilade_core.specs.declared.tree.Branch.{Branch}
use Rattle.enfilade_core.specs.declared.summary.Summary.{Summary}
use Rattle.enfilade_core.specs.Rows.{Shape, Rows, Branches, node_at}
use Rattle.enfilade_core.specs.Axes.{Widths}
use Rattle.enfilade_core.specs.WellFormed.{NamesBelow, HasWellFormedBranches, AreWellFormedBranches, IsWellFormed, AreWellFormed}
use Rattle.enfilade_core.specs.Summary.{no_summary, row_summary, branch_summary, summary_joined, summary_in, summaries, height_of, depth_of}
use Rattle.enfilade_core.specs.Laws.{DepthsCountLevels}
use Rattle.enfilade_core.proofs.Parts.{summary-said, well_formed-now, names_below}

pub rows_height : {L : Type 0} (w : Widths L) (rows : List (Row L)) (s : Summary) → s.height ≡ 0 → (fold summary_joined s (map (row_summary w) rows)).height ≡ 0
rows_height w [] s h = h
rows_height w (row ∷ rows) s h = rows_height w rows (summary_joined s (row_summary w row)) refl

branches_height : (told : List Summary) (n : ℕ) (branches : List Branch) (s : Summary) → s.height ≤ n → All (λ branch. (get_or told branch.node.0 no_summary).height ≤ n) branches → (fold summary_joined s (map (branch_summary told) branches)).height ≤ n
branches_height told n [] s h each = h
branches_height told n (branch ∷ branches) s h each =
    branches_height told n branches (summary_joined s (branch_summary told branch)) (All-head (λ b. (get_or told b.node.0 no_summary).height ≤ n) branch branches each) (All-tail (λ b. (get_or told b.node.0 no_summary).height ≤ n) branch branches each)

each_height : {L : Type 0} (w : Widths L) (nodes : List (Shape L)) (n : ℕ) → ((m : ℕ) → m < suc n → m < length nodes → height_of w nodes m ≤ m) → suc n < length nodes → (branches : List Branch) → All (λ branch. branch.node.0 < suc n) branches → All (λ branch. height_of w nodes branch.node.0 ≤ n) branches
each_height w nodes n below lt [] named = All-nil (λ branch. height_of w nodes branch.node.0 ≤ n)
each_height w nodes n below lt (branch ∷ branches) named =
    let first = All-head (λ b. b.node.0 < suc n) branch branches named in
    All-cons (λ b. height_of w nodes b.node.0 ≤ n) branch branches (omega (arith, below branch.node.0 first (omega arith)))
    (each_height w nodes n below lt branches (All-tail (λ b. b.node.0 < suc n) branch branches named))

-- with no earlier nodes nothing is named
node_height : {L : Type 0} (w : Widths L) (nodes : List (Shape L)) (k : ℕ) → ((m : ℕ) → m < k → m < length nodes → height_of w nodes m ≤ m) → k < length nodes → (node : Shape L) → NamesBelow k node → HasWellFormedBranches w nodes node → (summary_in w (summaries w nodes) node).height ≤ k
node_height w nodes k below lt (Rows rows) named is = omega (arith, rows_height w rows no_summary refl)
node_height w nodes k below lt (Branches []) named is = absurd (is.some refl)
node_height w nodes zero below lt (Branches (branch ∷ branches)) named is = absurd (let no = All-head (λ b. b.node.0 < 0) branch branches named in omega arith)
node_height w nodes (suc n) below lt (Branches (branch ∷ branches)) named is =
    omega (arith, branches_height (summaries w nodes) n (branch ∷ branches) no_summary (omega arith) (each_height w nodes n below lt (branch ∷ branches) named))

height_all : {L : Type 0} (w : Widths L) (nodes : List (Shape L)) → AreWellFormed w nodes → (n k : ℕ) → k < n → k < length nodes → height_of w nodes k ≤ k
height_all w nodes well_formed zero k below lt = absurd (omega arith)
height_all w nodes well_formed (suc n) k below lt =
    let said = ap (λ (s : Summary). s.height) (summary-said w nodes k well_formed lt) in
    omega (arith, said, node_height w nodes k (λ m lower within. height_all w nodes well_formed n m (omega arith) within) lt (node_at nodes k) (names_below w nodes k well_formed lt) (well_formed-now w nodes k well_formed lt).branches)

pub height_bound : {L : Type 0} (w : Widths L) (nodes : List (Shape L)) → AreWellFormed w nodes → (k : ℕ) → k < length nodes → height_of w nodes k ≤ k
height_bound w nodes well_formed k lt = height_all w nodes well_formed (k + 1) k (omega arith) lt

-- ---- levels

joined_level : (told : List Summary) (height : ℕ) (branches : List Branch) (s : Summary) → s.height ≡ height → All (λ branch. (get_or told branch.node.0 no_summary).height ≡ height) branches → (fold summary_joined s (map (branch_summary told) branches)).height ≡ height
joined_level told height [] s same each = same
joined_level told height (branch ∷ branches) s same each =
    joined_level told height branches (summary_joined s (branch_summary told branch)) (All-head (λ b. (get_or told b.node.0 no_summary).height ≡ height) branch branches each) (All-tail (λ b. (get_or told b.node.0 no_summary).height ≡ height) branch branches each)

above_branches : {L : Type 0} (w : Widths L) (nodes : List (Shape L)) (branches : List Branch) (well_formed : AreWellFormedBranches w nodes branches) → (summary_in w (summaries w nodes) (Branches branches)).height ≡ well_formed.height + 1
above_branches w nodes [] well_formed = absurd (well_formed.some refl)
above_branches w nodes (branch ∷ branches) well_formed =
    ap (λ n. n + 1)
    (joined_level (summaries w nodes) well_formed.height branches (summary_joined no_summary (branch_summary (summaries w nodes) branch))
    (All-head (λ b. height_of w nodes b.node.0 ≡ well_formed.height) branch branches well_formed.level)
    (All-tail (λ b. height_of w nodes b.node.0 ≡ well_formed.height) branch branches well_formed.level))

height_said : {L : Type 0} (w : Widths L) (nodes : List (Shape L)) (k : ℕ) (node : Shape L) → AreWellFormed w nodes → k < length nodes → node_at nodes k ≡ node → height_of w nodes k ≡ (summary_in w (summaries w nodes) node).height
height_said w nodes k node well_formed lt e =
    ap (λ (s : Summary). s.height) (summary-said w nodes k well_formed lt) ∙ ap (λ (n : Shape _). (summary_in w (summaries w nodes) n).height) e

inner_levels : {L : Type 0} (w : Widths L) (nodes : List (Shape L)) (k : ℕ) (branches : List Branch) → AreWellFormed w nodes → k < length nodes → node_at nodes k ≡ Branches branches → All (λ branch. depth_of w nodes k ≡ depth_of w nodes branch.node.0 + 1) branches
inner_levels w nodes k branches well_formed lt e =
    let now = (subst (IsWellFormed w nodes) e (well_formed-now w nodes k well_formed lt)).branches in
    let said = height_said w nodes k (Branches branches) well_formed lt e ∙ above_branches w nodes branches now in
    All-weaker (λ b. height_of w nodes b.node.0 ≡ now.height) (λ b. depth_of w nodes k ≡ depth_of w nodes b.node.0 + 1)
    (λ b same. ap (λ n. n + 1) (said ∙ ap (λ n. n + 1) (sym same))) branches now.level

pub depths_count_levels : {L : Type 0} (w : Widths L) (nodes : List (Shape L)) → AreWellFormed w nodes → DepthsCountLevels w nodes
depths_count_levels w nodes well_formed = record {
  bottom = λ k rows lt e. ap (λ n. n + 1) (height_said w nodes k (Rows rows) well_formed lt e ∙ rows_height w rows no_summary refl);
  inner = λ k branches lt e. inner_levels w nodes k branches well_formed lt e;
}
