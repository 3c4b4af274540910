-- Rows and branches that were gone through to the end.
use Rattle.std.proofs.Common.{◌≡◌, ◌≢◌, ℕ, ◌+◌, ◌<◌, ◌≤◌, List, [], ◌∷◌, length, get_or, take, map, fold, refl, arith, ap, sym, subst}
use Rattle.std.proofs.lemmas.List.Elements.{All-head}
use Rattle.enfilade_core.specs.declared.tree.Row.{Row}
use Rattle.enfilade_core.specs.declared.tree.Branch.{Branch}
use Rattle.enfilade_core.specs.declared.summary.Summary.{Summary}
use Rattle.enfilade_core.specs.Rows.{Shape, Rows, Branches, branch_rows, rows_table}
use Rattle.enfilade_core.specs.Axes.{Widths, WidthsStay, InOrder, IsWellFormedRow, IsWellFormedRows}
use Rattle.enfilade_core.specs.WellFormed.{IsWellFormed, AreWellFormed, IsWellFormedPart}
use Rattle.enfilade_core.specs.Summary.{row_summary, branch_summary, summaries, summary_in, summary_joined, no_summary, kept}
use Rattle.enfilade_core.specs.Following.{Follows}
use Rattle.enfilade_core.proofs.Fronts.{IsFront, all_joined}
use Rattle.enfilade_core.proofs.Heights.{height_bound}
use Rattle.enfilade_core.proofs.Nodes.{flat_rows, branches-well_formed_node, node-parts}
use Rattle.enfilade_core.proofs.PartTests.{row-told, part-told}
use Rattle.enfilade_core.proofs.GoneThrough.{GoneThrough, gone-all, gone-step, gone-follows, item-well_formed}

abbrev pub RowsGone : {L : Type 0} → Widths L → List (Row L) → Summary → Type 0
RowsGone w rows s = GoneThrough (λ r. r ∷ []) (row_summary w) (IsWellFormedRow w) rows s

pub rows-told : {L : Type 0} (w : Widths L) (rows : List (Row L)) (i : ℕ) (s : Summary) → length rows ≤ i → RowsGone w (take i rows) s → IsWellFormedRows w rows × (s ≡ kept (summary_in w [] (Rows rows)))
rows-told w rows i s le gone =
    let all = gone-all (λ r. r ∷ []) (row_summary w) (IsWellFormedRow w) rows i s le gone in
    (record { each = all.front.parts; ordered = subst InOrder (flat_rows rows) all.front.ordered }, all.value)

pub row-follows : {L : Type 0} (w : Widths L) (rows : List (Row L)) (i : ℕ) (row : Row L) (s part : Summary) → i < length rows → row ≡ get_or rows i row → RowsGone w (take i rows) s → IsWellFormedRow w row → part ≡ row_summary w row → IsWellFormedRows w rows → Follows s part
row-follows w rows i row s part lt at gone well_formed is all =
    gone-follows (λ r. r ∷ []) (row_summary w) (IsWellFormedRow w) (row-told w) rows i row s part 0 lt at gone well_formed is (subst InOrder (sym (flat_rows rows)) all.ordered) (λ k d short. refl)

pub row-more : {L : Type 0} (w : Widths L) (rows : List (Row L)) (i : ℕ) (row : Row L) (s part made : Summary) → i < length rows → row ≡ get_or rows i row → RowsGone w (take i rows) s → IsWellFormedRow w row → part ≡ row_summary w row → Follows s part → made ≡ kept (summary_joined s part) → RowsGone w (take (i + 1) rows) made
row-more w rows i row s part made lt at gone well_formed is follows value = gone-step (λ r. r ∷ []) (row_summary w) (IsWellFormedRow w) (row-told w) rows i row s part made lt at gone well_formed is follows value

abbrev pub BranchesGone : {L : Type 0} → Widths L → List (Shape L) → List Branch → Summary → Type 0
BranchesGone w nodes branches s = GoneThrough (branch_rows (rows_table nodes)) (branch_summary (summaries w nodes)) (IsWellFormedPart w nodes) branches s

pub branches-told : {L : Type 0} (w : Widths L) (nodes : List (Shape L)) (branches : List Branch) (i : ℕ) (s : Summary) → length branches ≤ i → branches ≢ [] → BranchesGone w nodes (take i branches) s → IsWellFormed w nodes (Branches branches) × (s ≡ kept (fold summary_joined no_summary (map (branch_summary (summaries w nodes)) branches)))
branches-told w nodes branches i s le some gone =
    let all = gone-all (branch_rows (rows_table nodes)) (branch_summary (summaries w nodes)) (IsWellFormedPart w nodes) branches i s le gone in
    (branches-well_formed_node w nodes branches (all_joined (branch_summary (summaries w nodes)) branches) some all.front, all.value)

front_height : {L : Type 0} (w : Widths L) (nodes : List (Shape L)) → AreWellFormed w nodes → (branches : List Branch) (s : Summary) → branches ≢ [] → IsFront (branch_rows (rows_table nodes)) (branch_summary (summaries w nodes)) (IsWellFormedPart w nodes) branches s → s.height < length nodes
front_height w nodes well_formed [] s some front = absurd (some refl)
front_height w nodes well_formed (branch ∷ branches) s some front =
    let part = All-head (IsWellFormedPart w nodes) branch branches front.parts in
    let level = All-head (λ b. (branch_summary (summaries w nodes) b).height ≡ s.height) branch branches front.level in
    omega (arith, height_bound w nodes well_formed branch.node.0 part.branch.below, part.branch.below, level)

pub branches-height : {L : Type 0} (w : Widths L) (nodes : List (Shape L)) → AreWellFormed w nodes → (branches : List Branch) (i : ℕ) (s : Summary) → length branches ≤ i → branches ≢ [] → BranchesGone w nodes (take i branches) s → s.height < length nodes
branches-height w nodes well_formed branches i s le some gone =
    let all = gone-all (branch_rows (rows_table nodes)) (branch_summary (summaries w nodes)) (IsWellFormedPart w nodes) branches i s le gone in
    let whole = all_joined (branch_summary (summaries w nodes)) branches in
    let height : s.height ≡ whole.height = ap (λ (x : Summary). x.height) all.value in
    omega (arith, height, front_height w nodes well_formed branches whole some all.front)

pub branch-follows : {L : Type 0} (w : Widths L) → WidthsStay w → (nodes : List (Shape L)) → AreWellFormed w nodes → (branches : List Branch) (i : ℕ) (branch : Branch) (s part : Summary) → i < length branches → branch ≡ get_or branches i branch → BranchesGone w nodes (take i branches) s → IsWellFormedPart w nodes branch → part ≡ kept (branch_summary (summaries w nodes) branch) → IsWellFormed w nodes (Branches branches) → Follows s part
branch-follows w stay nodes well_formed branches i branch s part lt at gone p is all =
    gone-follows (branch_rows (rows_table nodes)) (branch_summary (summaries w nodes)) (IsWellFormedPart w nodes) (part-told w stay nodes well_formed) branches i branch s part all.branches.height lt at gone p is all.ordered all.branches.level

pub branch-more : {L : Type 0} (w : Widths L) → WidthsStay w → (nodes : List (Shape L)) → AreWellFormed w nodes → (branches : List Branch) (i : ℕ) (branch : Branch) (s part made : Summary) → i < length branches → branch ≡ get_or branches i branch → BranchesGone w nodes (take i branches) s → IsWellFormedPart w nodes branch → part ≡ kept (branch_summary (summaries w nodes) branch) → Follows s part → made ≡ kept (summary_joined s part) → BranchesGone w nodes (take (i + 1) branches) made
branch-more w stay nodes well_formed branches i branch s part made lt at gone p is follows value =
    gone-step (branch_rows (rows_table nodes)) (branch_summary (summaries w nodes)) (IsWellFormedPart w nodes) (part-told w stay nodes well_formed) branches i branch s part made lt at gone p is follows value

pub branch-well_formed : {L : Type 0} (w : Widths L) (nodes : List (Shape L)) (branches : List Branch) (i : ℕ) (branch : Branch) → i < length branches → branch ≡ get_or branches i branch → IsWellFormed w nodes (Branches branches) → IsWellFormedPart w nodes branch
branch-well_formed w nodes branches i branch lt at well_formed = item-well_formed (IsWellFormedPart w nodes) branches i branch lt at (node-parts w nodes branches well_formed)
