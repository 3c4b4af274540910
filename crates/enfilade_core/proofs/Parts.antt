-- The parts of nodes: where they are told, and that they stay where nodes are added.
use Rattle.std.proofs.Common.{◌≡◌, ℕ, ◌<◌, ◌≤◌, List, [], ◌∷◌, ◌++◌, length, get_or, take, drop, map, arith, ap, ◌∙◌, sym, subst}
use Rattle.std.specs.List.{All}
use Rattle.std.proofs.lemmas.List.{length-append, length-take-le, take-append-drop}
use Rattle.std.proofs.lemmas.List.Elements.{All-weaker, All-nil, All-cons, All-head, All-tail}
use Rattle.tumbler.specs.Places.{IsTumbler, sum}
use Rattle.enfilade_core.specs.declared.tree.Branch.{Branch}
use Rattle.enfilade_core.specs.Rows.{Shape, Rows, Branches, table, moved, branch_rows, rows_in, rows_table, rows_of, node_at}
use Rattle.enfilade_core.specs.Axes.{Widths, Axis, first_axis, second_axis, InOrder, IsWellFormedRow}
use Rattle.enfilade_core.specs.WellFormed.{NamesBelow, branch_origins, origins_in, origins_table, IsWellFormedBranch, HasWellFormedBranches, IsWellFormed, AreWellFormed, IsWellFormedPart}
use Rattle.enfilade_core.specs.Summary.{summary_in, summaries, summary_of, height_of, no_summary}
use Rattle.enfilade_core.specs.Edits.{KeepsRows}
use Rattle.enfilade_core.proofs.Tables.{table-later, table-said, Agrees}
use Rattle.enfilade_core.proofs.Locals.{rows_local, origins_local, summary_local}

-- ---- nodes are added

pub keeps_rows : {L : Type 0} (nodes more : List (Shape L)) → KeepsRows nodes (nodes ++ more)
keeps_rows nodes more k lt = table-later rows_in nodes more k [] lt

pub branch_rows-later : {L : Type 0} (nodes more : List (Shape L)) (branch : Branch) → branch.node.0 < length nodes → branch_rows (rows_table (nodes ++ more)) branch ≡ branch_rows (rows_table nodes) branch
branch_rows-later nodes more branch lt = ap (map (moved branch.first branch.second)) (keeps_rows nodes more branch.node.0 lt)

pub branch_origins-later : {L : Type 0} (axis : Axis L) (nodes more : List (Shape L)) (branch : Branch) → branch.node.0 < length nodes → branch_origins axis (origins_table axis (nodes ++ more)) branch ≡ branch_origins axis (origins_table axis nodes) branch
branch_origins-later axis nodes more branch lt =
    ap (λ (r : List (List ℕ)). axis.origin branch ∷ map (sum (axis.origin branch)) r) (table-later (origins_in axis) nodes more branch.node.0 [] lt)

pub summary-later : {L : Type 0} (w : Widths L) (nodes more : List (Shape L)) (k : ℕ) → k < length nodes → summary_of w (nodes ++ more) k ≡ summary_of w nodes k
summary-later w nodes more k lt = table-later (summary_in w) nodes more k no_summary lt

pub height-later : {L : Type 0} (w : Widths L) (nodes more : List (Shape L)) (k : ℕ) → k < length nodes → height_of w (nodes ++ more) k ≡ height_of w nodes k
height-later w nodes more k lt = ap (λ s. s.height) (summary-later w nodes more k lt)

pub branch-later : {L : Type 0} (w : Widths L) (nodes more : List (Shape L)) (branch : Branch) → IsWellFormedBranch w nodes branch → IsWellFormedBranch w (nodes ++ more) branch
branch-later w nodes more branch well_formed =
    let rows = keeps_rows nodes more branch.node.0 well_formed.below in
    record {
      below = omega (arith, length-append nodes more, well_formed.below);
      filled = rw rows well_formed.filled;
      first_extent = rw rows well_formed.first_extent;
      second_extent = rw rows well_formed.second_extent;
    }

pub part-later : {L : Type 0} (w : Widths L) (nodes more : List (Shape L)) (part : Branch) → IsWellFormedPart w nodes part → IsWellFormedPart w (nodes ++ more) part
part-later w nodes more part well_formed =
    let lt = well_formed.branch.below in
    record {
      branch = branch-later w nodes more part well_formed.branch;
      first_origins = subst (All IsTumbler) (sym (branch_origins-later (first_axis w) nodes more part lt)) well_formed.first_origins;
      second_origins = subst (All IsTumbler) (sym (branch_origins-later (second_axis w) nodes more part lt)) well_formed.second_origins;
      rows = rw (branch_rows-later nodes more part lt) well_formed.rows;
    }

-- ---- the nodes that a well formed node names

pub well_formed_names_below : {L : Type 0} (w : Widths L) (before : List (Shape L)) (node : Shape L) (n : ℕ) → length before ≤ n → HasWellFormedBranches w before node → NamesBelow n node
well_formed_names_below w before (Rows rows) n le well_formed = tt
well_formed_names_below w before (Branches branches) n le well_formed =
    All-weaker (IsWellFormedBranch w before) (λ branch. branch.node.0 < n) (λ branch b. omega (arith, b.below)) branches well_formed.each

pub names_below : {L : Type 0} (w : Widths L) (nodes : List (Shape L)) (k : ℕ) → AreWellFormed w nodes → k < length nodes → NamesBelow k (node_at nodes k)
names_below w nodes k well_formed lt =
    well_formed_names_below w (take k nodes) (node_at nodes k) k (omega (arith, length-take-le k nodes (omega arith))) (well_formed.each k lt).branches

-- what the tables say of a node is what they say of its children, where all nodes are there
pub rows-said : {L : Type 0} (w : Widths L) (nodes : List (Shape L)) (k : ℕ) → AreWellFormed w nodes → k < length nodes → rows_of nodes k ≡ rows_in (rows_table nodes) (node_at nodes k)
rows-said w nodes k well_formed lt = table-said rows_in [] rows_local nodes k lt (names_below w nodes k well_formed lt)

pub origins-said : {L : Type 0} (w : Widths L) (axis : Axis L) (nodes : List (Shape L)) (k : ℕ) → AreWellFormed w nodes → k < length nodes → get_or (origins_table axis nodes) k [] ≡ origins_in axis (origins_table axis nodes) (node_at nodes k)
origins-said w axis nodes k well_formed lt = table-said (origins_in axis) [] (origins_local axis) nodes k lt (names_below w nodes k well_formed lt)

pub summary-said : {L : Type 0} (w : Widths L) (nodes : List (Shape L)) (k : ℕ) → AreWellFormed w nodes → k < length nodes → summary_of w nodes k ≡ summary_in w (summaries w nodes) (node_at nodes k)
summary-said w nodes k well_formed lt = table-said (summary_in w) no_summary (summary_local w) nodes k lt (names_below w nodes k well_formed lt)

-- ---- a well formed node stays well formed where nodes are added, and is well formed where all are there

agrees_later : {L T : Type 0} (say : List T → Shape L → T) (d : T) (nodes more : List (Shape L)) → Agrees d (length nodes) (table say (nodes ++ more)) (table say nodes)
agrees_later say d nodes more k lt = table-later say nodes more k d lt

branches-later : {L : Type 0} (w : Widths L) (nodes more : List (Shape L)) (node : Shape L) → HasWellFormedBranches w nodes node → HasWellFormedBranches w (nodes ++ more) node
branches-later w nodes more (Rows rows) well_formed = tt
branches-later w nodes more (Branches branches) well_formed = record {
  some = well_formed.some;
  each = All-weaker (IsWellFormedBranch w nodes) (IsWellFormedBranch w (nodes ++ more)) (branch-later w nodes more) branches well_formed.each;
  height = well_formed.height;
  level = all_level branches well_formed.each well_formed.level;
}
  where
    all_level : (branches : List Branch) → All (IsWellFormedBranch w nodes) branches → All (λ branch. height_of w nodes branch.node.0 ≡ well_formed.height) branches → All (λ branch. height_of w (nodes ++ more) branch.node.0 ≡ well_formed.height) branches
    all_level [] h g = All-nil (λ branch. height_of w (nodes ++ more) branch.node.0 ≡ well_formed.height)
    all_level (branch ∷ rest) h g =
        let P = IsWellFormedBranch w nodes in
        let Q : Branch → Type 0 = λ b. height_of w nodes b.node.0 ≡ well_formed.height in
        All-cons (λ b. height_of w (nodes ++ more) b.node.0 ≡ well_formed.height) branch rest
        (height-later w nodes more branch.node.0 (All-head P branch rest h).below ∙ All-head Q branch rest g)
        (all_level rest (All-tail P branch rest h) (All-tail Q branch rest g))

pub well_formed-later : {L : Type 0} (w : Widths L) (nodes more : List (Shape L)) (node : Shape L) → IsWellFormed w nodes node → IsWellFormed w (nodes ++ more) node
well_formed-later w nodes more node well_formed =
    let named = well_formed_names_below w nodes node (length nodes) (omega arith) well_formed.branches in
    let rows = rows_local.same (length nodes) (rows_table (nodes ++ more)) (rows_table nodes) node (agrees_later rows_in [] nodes more) named in
    let first = (origins_local (first_axis w)).same (length nodes) (origins_table (first_axis w) (nodes ++ more)) (origins_table (first_axis w) nodes) node (agrees_later (origins_in (first_axis w)) [] nodes more) named in
    let second = (origins_local (second_axis w)).same (length nodes) (origins_table (second_axis w) (nodes ++ more)) (origins_table (second_axis w) nodes) node (agrees_later (origins_in (second_axis w)) [] nodes more) named in
    record {
      branches = branches-later w nodes more node well_formed.branches;
      first_origins = subst (All IsTumbler) (sym first) well_formed.first_origins;
      second_origins = subst (All IsTumbler) (sym second) well_formed.second_origins;
      rows = subst (All (IsWellFormedRow w)) (sym rows) well_formed.rows;
      ordered = subst InOrder (sym rows) well_formed.ordered;
    }

pub well_formed-now : {L : Type 0} (w : Widths L) (nodes : List (Shape L)) (k : ℕ) → AreWellFormed w nodes → k < length nodes → IsWellFormed w nodes (node_at nodes k)
well_formed-now w nodes k well_formed lt =
    subst (λ (ns : _). IsWellFormed w ns (node_at nodes k)) (take-append-drop k nodes) (well_formed-later w (take k nodes) (drop k nodes) (node_at nodes k) (well_formed.each k lt))

pub rows-well_formed : {L : Type 0} (w : Widths L) (nodes : List (Shape L)) (k : ℕ) → AreWellFormed w nodes → k < length nodes → All (IsWellFormedRow w) (rows_of nodes k)
rows-well_formed w nodes k well_formed lt = subst (All (IsWellFormedRow w)) (sym (rows-said w nodes k well_formed lt)) (well_formed-now w nodes k well_formed lt).rows

pub rows-ordered : {L : Type 0} (w : Widths L) (nodes : List (Shape L)) (k : ℕ) → AreWellFormed w nodes → k < length nodes → InOrder (rows_of nodes k)
rows-ordered w nodes k well_formed lt = subst InOrder (sym (rows-said w nodes k well_formed lt)) (well_formed-now w nodes k well_formed lt).ordered

pub origins-well_formed : {L : Type 0} (w : Widths L) (nodes : List (Shape L)) (k : ℕ) → AreWellFormed w nodes → k < length nodes → All IsTumbler (get_or (origins_table (first_axis w) nodes) k []) × All IsTumbler (get_or (origins_table (second_axis w) nodes) k [])
origins-well_formed w nodes k well_formed lt =
    let now = well_formed-now w nodes k well_formed lt in
    (subst (All IsTumbler) (sym (origins-said w (first_axis w) nodes k well_formed lt)) now.first_origins, subst (All IsTumbler) (sym (origins-said w (second_axis w) nodes k well_formed lt)) now.second_origins)
