-- A node is well formed exactly where its children went through to the end.
use Rattle.std.proofs.Common.{◌≡◌, ◌≢◌, List, [], ◌∷◌, refl, ap, subst}
use Rattle.std.specs.List.{All, flat_map}
use Rattle.std.proofs.lemmas.List.Elements.{All-head, All-tail, All-nil, All-cons, All-weaker}
use Rattle.tumbler.specs.Places.{IsTumbler}
use Rattle.enfilade_core.specs.declared.tree.Row.{Row}
use Rattle.enfilade_core.specs.declared.tree.Branch.{Branch}
use Rattle.enfilade_core.specs.declared.summary.Summary.{Summary}
use Rattle.enfilade_core.specs.Rows.{Shape, Rows, Branches, branch_rows, rows_table}
use Rattle.enfilade_core.specs.Axes.{Widths, first_axis, second_axis, InOrder, IsWellFormedRow}
use Rattle.enfilade_core.specs.WellFormed.{branch_origins, origins_table, IsWellFormedBranch, IsWellFormed, IsWellFormedPart}
use Rattle.enfilade_core.specs.Summary.{branch_summary, summaries, row_summary}
use Rattle.enfilade_core.proofs.Orders.{All-flat, All-unflat}
use Rattle.enfilade_core.proofs.Fronts.{IsFront}

pub flat_rows : {L : Type 0} (rows : List (Row L)) → flat_map (λ r. r ∷ []) rows ≡ rows
flat_rows [] = refl
flat_rows (row ∷ rows) = ap (λ (r : List (Row _)). row ∷ r) (flat_rows rows)

-- ---- rows

pub rows-well_formed_node : {L : Type 0} (w : Widths L) (nodes : List (Shape L)) (rows : List (Row L)) (s : Summary) → IsFront (λ r. r ∷ []) (row_summary w) (IsWellFormedRow w) rows s → IsWellFormed w nodes (Rows rows)
rows-well_formed_node w nodes rows s front = record {
  branches = tt;
  first_origins = All-nil IsTumbler;
  second_origins = All-nil IsTumbler;
  rows = front.parts;
  ordered = subst InOrder (flat_rows rows) front.ordered;
}

-- ---- branches

pub branches-well_formed_node : {L : Type 0} (w : Widths L) (nodes : List (Shape L)) (branches : List Branch) (s : Summary) → branches ≢ [] → IsFront (branch_rows (rows_table nodes)) (branch_summary (summaries w nodes)) (IsWellFormedPart w nodes) branches s → IsWellFormed w nodes (Branches branches)
branches-well_formed_node w nodes branches s some front = record {
  branches = record {
    some = some;
    each = All-weaker (IsWellFormedPart w nodes) (IsWellFormedBranch w nodes) (λ b p. p.branch) branches front.parts;
    height = s.height;
    level = front.level;
  };
  first_origins = All-flat IsTumbler (branch_origins (first_axis w) (origins_table (first_axis w) nodes)) branches
      (All-weaker (IsWellFormedPart w nodes) (λ b. All IsTumbler (branch_origins (first_axis w) (origins_table (first_axis w) nodes) b)) (λ b p. p.first_origins) branches front.parts);
  second_origins = All-flat IsTumbler (branch_origins (second_axis w) (origins_table (second_axis w) nodes)) branches
      (All-weaker (IsWellFormedPart w nodes) (λ b. All IsTumbler (branch_origins (second_axis w) (origins_table (second_axis w) nodes) b)) (λ b p. p.second_origins) branches front.parts);
  rows = All-flat (IsWellFormedRow w) (branch_rows (rows_table nodes)) branches
      (All-weaker (IsWellFormedPart w nodes) (λ b. All (IsWellFormedRow w) (branch_rows (rows_table nodes) b)) (λ b p. p.rows) branches front.parts);
  ordered = front.ordered;
}

parts_of : {L : Type 0} (w : Widths L) (nodes : List (Shape L)) (branches : List Branch) → All (IsWellFormedBranch w nodes) branches
    → All (λ b. All IsTumbler (branch_origins (first_axis w) (origins_table (first_axis w) nodes) b)) branches
    → All (λ b. All IsTumbler (branch_origins (second_axis w) (origins_table (second_axis w) nodes) b)) branches
    → All (λ b. All (IsWellFormedRow w) (branch_rows (rows_table nodes) b)) branches → All (IsWellFormedPart w nodes) branches
parts_of w nodes [] each f g h = All-nil (IsWellFormedPart w nodes)
parts_of w nodes (branch ∷ branches) each f g h =
    All-cons (IsWellFormedPart w nodes) branch branches
    record {
      branch = All-head (IsWellFormedBranch w nodes) branch branches each;
      first_origins = All-head (λ b. All IsTumbler (branch_origins (first_axis w) (origins_table (first_axis w) nodes) b)) branch branches f;
      second_origins = All-head (λ b. All IsTumbler (branch_origins (second_axis w) (origins_table (second_axis w) nodes) b)) branch branches g;
      rows = All-head (λ b. All (IsWellFormedRow w) (branch_rows (rows_table nodes) b)) branch branches h;
    }
    (parts_of w nodes branches (All-tail (IsWellFormedBranch w nodes) branch branches each)
    (All-tail (λ b. All IsTumbler (branch_origins (first_axis w) (origins_table (first_axis w) nodes) b)) branch branches f)
    (All-tail (λ b. All IsTumbler (branch_origins (second_axis w) (origins_table (second_axis w) nodes) b)) branch branches g)
    (All-tail (λ b. All (IsWellFormedRow w) (branch_rows (rows_table nodes) b)) branch branches h))

pub node-parts : {L : Type 0} (w : Widths L) (nodes : List (Shape L)) (branches : List Branch) → IsWellFormed w nodes (Branches branches) → All (IsWellFormedPart w nodes) branches
node-parts w nodes branches well_formed =
    parts_of w nodes branches well_formed.branches.each
    (All-unflat IsTumbler (branch_origins (first_axis w) (origins_table (first_axis w) nodes)) branches well_formed.first_origins)
    (All-unflat IsTumbler (branch_origins (second_axis w) (origins_table (second_axis w) nodes)) branches well_formed.second_origins)
    (All-unflat (IsWellFormedRow w) (branch_rows (rows_table nodes)) branches well_formed.rows)
