-- What is kept of a node tells what is below it.
use Rattle.std.proofs.Common.{◌≡◌, ◌≢◌, ℕ, zero, suc, ◌+◌, ◌<◌, List, [], ◌∷◌, ◌++◌, length, map, fold, refl, arith, sym, subst, append_assoc, append-nil}
use Rattle.std.specs.List.{All, flat_map}
use Rattle.std.proofs.lemmas.List.Elements.{All-head, All-tail, All-nil, All-cons}
use Rattle.enfilade_core.specs.declared.tree.Row.{Row}
use Rattle.enfilade_core.specs.declared.tree.Branch.{Branch}
use Rattle.enfilade_core.specs.declared.summary.Summary.{Summary}
use Rattle.enfilade_core.specs.Rows.{Shape, Rows, Branches, moved, branch_rows, rows_in, rows_table, rows_of, node_at}
use Rattle.enfilade_core.specs.Axes.{Widths, WidthsStay}
use Rattle.enfilade_core.specs.WellFormed.{NamesBelow, IsWellFormedBranch, HasWellFormedBranches, AreWellFormed}
use Rattle.enfilade_core.specs.Summary.{no_summary, row_summary, branch_summary, summary_joined, raised, summary_in, summaries, summary_of}
use Rattle.enfilade_core.proofs.Parts.{rows-said, summary-said, well_formed-now, rows-well_formed, names_below}
use Rattle.enfilade_core.proofs.Tells.{Tells, tells-none, tells-row, tells-joined, tells-moved, all_move}

tells-same : {L : Type 0} (w : Widths L) (rows more : List (Row L)) (s : Summary) → rows ≡ more → Tells w rows s → Tells w more s
tells-same {L} w rows more s e h = subst (λ (x : List (Row L)). Tells w x s) e h

pub tells-rows : {L : Type 0} (w : Widths L) (front : List (Row L)) (s : Summary) (rows : List (Row L)) → Tells w front s → Tells w (front ++ rows) (fold summary_joined s (map (row_summary w) rows))
tells-rows w front s [] h = tells-same w front (front ++ []) s (sym (append-nil front)) h
tells-rows w front s (row ∷ rows) h =
    tells-same w ((front ++ row ∷ []) ++ rows) (front ++ row ∷ rows) (fold summary_joined (summary_joined s (row_summary w row)) (map (row_summary w) rows))
    (append_assoc front (row ∷ []) rows) (tells-rows w (front ++ row ∷ []) (summary_joined s (row_summary w row)) rows (tells-joined w front (row ∷ []) s (row_summary w row) (λ q. cc) h (tells-row w row)))

-- what is told of a branch
pub record TellsBranch {L : Type 0} (w : Widths L) (nodes : List (Shape L)) (branch : Branch) : Type 0 where
  pub some : branch_rows (rows_table nodes) branch ≢ []
  pub tells : Tells w (branch_rows (rows_table nodes) branch) (branch_summary (summaries w nodes) branch)

pub tells-branches : {L : Type 0} (w : Widths L) (nodes : List (Shape L)) (front : List (Row L)) (s : Summary) (branches : List Branch) → All (TellsBranch w nodes) branches → Tells w front s
    → Tells w (front ++ flat_map (branch_rows (rows_table nodes)) branches) (fold summary_joined s (map (branch_summary (summaries w nodes)) branches))
tells-branches w nodes front s [] each h = tells-same w front (front ++ []) s (sym (append-nil front)) h
tells-branches w nodes front s (branch ∷ branches) each h =
    let told = All-head (TellsBranch w nodes) branch branches each in
    let rows = branch_rows (rows_table nodes) branch in
    let part = branch_summary (summaries w nodes) branch in
    let next = tells-joined w front rows s part told.some h told.tells in
    let more = flat_map (branch_rows (rows_table nodes)) branches in
    tells-same w ((front ++ rows) ++ more) (front ++ (rows ++ more)) (fold summary_joined (summary_joined s part) (map (branch_summary (summaries w nodes)) branches))
    (append_assoc front rows more) (tells-branches w nodes (front ++ rows) (summary_joined s part) branches (All-tail (TellsBranch w nodes) branch branches each) next)

-- a node of an arena, with what its summary tells
abbrev pub TellsNode : {L : Type 0} → Widths L → List (Shape L) → ℕ → Type 0
TellsNode w nodes k = Tells w (rows_of nodes k) (summary_of w nodes k)

map_filled : {A B : Type 0} (f : A → B) (xs : List A) → xs ≢ [] → map f xs ≢ []
map_filled f [] n q = n refl
map_filled f (x ∷ xs) n q = cc

pub tells-branch : {L : Type 0} (w : Widths L) → WidthsStay w → (nodes : List (Shape L)) → AreWellFormed w nodes → (branch : Branch) → IsWellFormedBranch w nodes branch → TellsNode w nodes branch.node.0 → TellsBranch w nodes branch
tells-branch w stay nodes well_formed branch b told = record {
  some = map_filled (moved branch.first branch.second) (rows_of nodes branch.node.0) b.filled;
  tells = tells-moved w branch.first branch.second (rows_of nodes branch.node.0) (summary_of w nodes branch.node.0) b.filled (all_move w stay (rows_of nodes branch.node.0) (rows-well_formed w nodes branch.node.0 well_formed b.below)) told;
}

tells-raised : {L : Type 0} (w : Widths L) (rows : List (Row L)) (s : Summary) → Tells w rows s → Tells w rows (raised s)
tells-raised w rows s h = record { leaves = h.leaves; first = h.first; last = h.last; first_extent = h.first_extent; second_extent = h.second_extent }

-- a node whose branches are told
abbrev pub BranchesTold : {L : Type 0} → Widths L → List (Shape L) → Shape L → Type 0
BranchesTold w nodes (Rows rows) = Unit {0}
BranchesTold w nodes (Branches branches) = All (TellsBranch w nodes) branches

pub tells-node : {L : Type 0} (w : Widths L) (nodes : List (Shape L)) (node : Shape L) → BranchesTold w nodes node → Tells w (rows_in (rows_table nodes) node) (summary_in w (summaries w nodes) node)
tells-node w nodes (Rows rows) told = tells-rows w [] no_summary rows (tells-none w)
tells-node w nodes (Branches branches) told = tells-raised w _ _ (tells-branches w nodes [] no_summary branches told (tells-none w))

each_told : {L : Type 0} (w : Widths L) → WidthsStay w → (nodes : List (Shape L)) → AreWellFormed w nodes → (k : ℕ) → ((m : ℕ) → m < k → m < length nodes → TellsNode w nodes m)
    → (branches : List Branch) → All (λ branch. branch.node.0 < k) branches → All (IsWellFormedBranch w nodes) branches → All (TellsBranch w nodes) branches
each_told w stay nodes well_formed k below [] named each = All-nil (TellsBranch w nodes)
each_told w stay nodes well_formed k below (branch ∷ branches) named each =
    let P : Branch → Type 0 = λ b. b.node.0 < k in
    let Q = IsWellFormedBranch w nodes in
    let first = All-head Q branch branches each in
    All-cons (TellsBranch w nodes) branch branches
    (tells-branch w stay nodes well_formed branch first (below branch.node.0 (All-head P branch branches named) first.below))
    (each_told w stay nodes well_formed k below branches (All-tail P branch branches named) (All-tail Q branch branches each))

branches_told : {L : Type 0} (w : Widths L) → WidthsStay w → (nodes : List (Shape L)) → AreWellFormed w nodes → (k : ℕ) → ((m : ℕ) → m < k → m < length nodes → TellsNode w nodes m)
    → (node : Shape L) → NamesBelow k node → HasWellFormedBranches w nodes node → BranchesTold w nodes node
branches_told w stay nodes well_formed k below (Rows rows) named is = tt
branches_told w stay nodes well_formed k below (Branches branches) named is = each_told w stay nodes well_formed k below branches named is.each

tells_all : {L : Type 0} (w : Widths L) → WidthsStay w → (nodes : List (Shape L)) → AreWellFormed w nodes → (n k : ℕ) → k < n → k < length nodes → TellsNode w nodes k
tells_all w stay nodes well_formed zero k below lt = absurd (omega arith)
tells_all w stay nodes well_formed (suc n) k below lt =
    let node = node_at nodes k in
    let told = tells-node w nodes node (branches_told w stay nodes well_formed k (λ m lower within. tells_all w stay nodes well_formed n m (omega arith) within) node (names_below w nodes k well_formed lt) (well_formed-now w nodes k well_formed lt).branches) in
    tells-same w (rows_in (rows_table nodes) node) (rows_of nodes k) (summary_of w nodes k) (sym (rows-said w nodes k well_formed lt))
    (subst (Tells w (rows_in (rows_table nodes) node)) (sym (summary-said w nodes k well_formed lt)) told)

pub tells : {L : Type 0} (w : Widths L) → WidthsStay w → (nodes : List (Shape L)) → AreWellFormed w nodes → (k : ℕ) → k < length nodes → TellsNode w nodes k
tells w stay nodes well_formed k lt = tells_all w stay nodes well_formed (k + 1) k (omega arith) lt
