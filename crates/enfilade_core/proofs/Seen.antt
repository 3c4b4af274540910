-- The rows of a tree, seen from a base.
use Rattle.std.proofs.Common.{◌≡◌, ℕ, List, [], ◌∷◌, ◌++◌, map, refl, ap, ◌∙◌, sym}
use Rattle.std.specs.List.{flat_map}
use Rattle.std.proofs.lemmas.List.{map-append}
use Rattle.tumbler.specs.Places.{sum}
use Rattle.tumbler.proofs.Sums.{sums_associate, sum-from_zero}
use Rattle.enfilade_core.specs.declared.tree.Row.{Row}
use Rattle.enfilade_core.specs.declared.tree.Branch.{Branch}
use Rattle.enfilade_core.specs.Rows.{Shape, Rows, Branches, moved, branch_rows, rows_in, rows_table, rows_of, node_at}
use Rattle.enfilade_core.specs.Axes.{Widths}
use Rattle.enfilade_core.specs.WellFormed.{AreWellFormed}
use Rattle.enfilade_core.specs.Laws.{rows_from, below_from, RowsOfChildren, RowsStay}
use Rattle.enfilade_core.proofs.Parts.{rows-said, keeps_rows}

moved-twice : {L : Type 0} (a b c d : List ℕ) (row : Row L) → moved a b (moved c d row) ≡ moved (sum a c) (sum b d) row
moved-twice a b c d row =
    ap (λ (x : List ℕ). record row { first = x; second = sum b (sum d row.second) }) (sym (sums_associate a c row.first))
    ∙ ap (λ (x : List ℕ). record row { first = sum (sum a c) row.first; second = x }) (sym (sums_associate b d row.second))

pub rows-moved_twice : {L : Type 0} (a b c d : List ℕ) (rows : List (Row L)) → map (moved a b) (map (moved c d) rows) ≡ map (moved (sum a c) (sum b d)) rows
rows-moved_twice a b c d [] = refl
rows-moved_twice a b c d (row ∷ rows) =
    ap (λ (r : Row _). r ∷ map (moved a b) (map (moved c d) rows)) (moved-twice a b c d row) ∙ ap (λ (rs : List (Row _)). moved (sum a c) (sum b d) row ∷ rs) (rows-moved_twice a b c d rows)

pub rows-not_moved : {L : Type 0} (rows : List (Row L)) → map (moved [] []) rows ≡ rows
rows-not_moved [] = refl
rows-not_moved (row ∷ rows) =
    ap (λ (x : List ℕ). record row { first = x; second = sum [] row.second } ∷ map (moved [] []) rows) (sum-from_zero row.first)
    ∙ ap (λ (x : List ℕ). record row { first = row.first; second = x } ∷ map (moved [] []) rows) (sum-from_zero row.second)
    ∙ ap (λ (rs : List (Row _)). row ∷ rs) (rows-not_moved rows)

flat-moved : {L : Type 0} (nodes : List (Shape L)) (a b : List ℕ) (branches : List Branch) → map (moved a b) (flat_map (branch_rows (rows_table nodes)) branches) ≡ below_from nodes (Branches branches) a b
flat-moved nodes a b [] = refl
flat-moved nodes a b (branch ∷ branches) =
    let rows = branch_rows (rows_table nodes) branch in
    map-append (moved a b) rows (flat_map (branch_rows (rows_table nodes)) branches)
    ∙ ap (λ (r : List (Row _)). r ++ map (moved a b) (flat_map (branch_rows (rows_table nodes)) branches)) (rows-moved_twice a b branch.first branch.second (rows_of nodes branch.node.0))
    ∙ ap (λ (r : List (Row _)). rows_from nodes branch.node.0 (sum a branch.first) (sum b branch.second) ++ r) (flat-moved nodes a b branches)

seen : {L : Type 0} (nodes : List (Shape L)) (node : Shape L) (a b : List ℕ) → map (moved a b) (rows_in (rows_table nodes) node) ≡ below_from nodes node a b
seen nodes (Rows rows) a b = refl
seen nodes (Branches branches) a b = flat-moved nodes a b branches

pub rows_of_children : {L : Type 0} (w : Widths L) (nodes : List (Shape L)) → AreWellFormed w nodes → RowsOfChildren nodes
rows_of_children w nodes well_formed k a b lt = ap (map (moved a b)) (rows-said w nodes k well_formed lt) ∙ seen nodes (node_at nodes k) a b

pub rows_stay : {L : Type 0} (nodes : List (Shape L)) → RowsStay nodes
rows_stay nodes more = keeps_rows nodes more
