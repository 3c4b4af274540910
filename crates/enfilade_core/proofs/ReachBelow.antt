-- How far what is below nodes reaches: of one row, of neighbours, of all that is moved, and of a node's branches.
use Rattle.std.proofs.Common.{◌≡◌, ℕ, ◌+◌, ◌<◌, ◌≤◌, List, [], ◌∷◌, ◌++◌, length, get_or, take, map, refl, ap, ◌∙◌, sym, subst, append-nil}
use Rattle.std.specs.List.{All, flat_map}
use Rattle.std.proofs.lemmas.List.{map-append, take_more, take_all}
use Rattle.std.proofs.lemmas.List.Elements.{All-head, All-tail}
use Rattle.std.proofs.lemmas.Grind.{flat_map-append}
use Rattle.tumbler.specs.Places.{sum}
use Rattle.tumbler.specs.Reach.{lead, greater, reach}
use Rattle.tumbler.proofs.Reaches.{greater-none, greater_assoc, greater_comm, reach_is_joined, reach_is_moved}
use Rattle.enfilade_core.specs.declared.tree.Row.{Row}
use Rattle.enfilade_core.specs.declared.tree.Branch.{Branch}
use Rattle.enfilade_core.specs.Rows.{Shape, Rows, Branches, moved, branch_rows, rows_in, rows_table, rows_of, node_at}
use Rattle.enfilade_core.specs.Axes.{Widths, Axis, first_axis, second_axis, WidthsStay, end_on, IsWellFormedRow}
use Rattle.enfilade_core.specs.WellFormed.{branch_origins, origins_in, origins_table, IsWellFormed, AreWellFormed, IsWellFormedPart, NamesBelow}
use Rattle.enfilade_core.specs.Reach.{row_points, points, reach_of, reach_below, branches_reach}
use Rattle.enfilade_core.proofs.Tells.{MovesOn, end-moved, all_move, all_move_first, all_move_second}
use Rattle.enfilade_core.proofs.Parts.{rows-said, origins-said, rows-well_formed, well_formed-now, names_below}
use Rattle.enfilade_core.proofs.Nodes.{node-parts}
use Rattle.enfilade_core.proofs.GoneThrough.{item-well_formed}

pub points-moved : {L : Type 0} (axis : Axis L) (d : List ℕ) (move : Row L → Row L) (rows : List (Row L)) → All (MovesOn axis d move) rows → points axis (map move rows) ≡ map (sum d) (points axis rows)
points-moved axis d move [] h = refl
points-moved axis d move (row ∷ rows) h =
    let P = MovesOn axis d move in
    let first = All-head P row rows h in
    ap (λ (x : List ℕ). x ∷ end_on axis (move row) ∷ points axis (map move rows)) first.coordinate
    ∙ ap (λ (x : List ℕ). sum d (axis.coordinate row) ∷ x ∷ points axis (map move rows)) (end-moved axis d move row first)
    ∙ ap (λ (r : List (List ℕ)). sum d (axis.coordinate row) ∷ sum d (end_on axis row) ∷ r) (points-moved axis d move rows (All-tail P row rows h))

-- four, taken two by two
greater_swap : (a b c d : List ℕ) → greater (greater a b) (greater c d) ≡ greater (greater a c) (greater b d)
greater_swap a b c d =
    greater_assoc a b (greater c d)
    ∙ ap (greater a) (sym (greater_assoc b c d) ∙ ap (λ (x : List ℕ). greater x d) (greater_comm b c) ∙ greater_assoc c b d)
    ∙ sym (greater_assoc a c (greater b d))

pub reach-row : {L : Type 0} (axis : Axis L) (row : Row L) → reach_of axis [] (row ∷ []) ≡ greater (lead (axis.coordinate row)) (lead (end_on axis row))
reach-row axis row = ap (greater (lead (axis.coordinate row))) (greater-none (lead (end_on axis row)))

pub reach-joined : {L : Type 0} (axis : Axis L) (o p : List (List ℕ)) (rows more : List (Row L)) → reach_of axis (o ++ p) (rows ++ more) ≡ greater (reach_of axis o rows) (reach_of axis p more)
reach-joined axis o p rows more =
    let first = points axis rows in
    let second = points axis more in
    ap (λ (x : List (List ℕ)). reach ((o ++ p) ++ x)) (flat_map-append (row_points axis) rows more)
    ∙ reach_is_joined (o ++ p) (first ++ second)
    ∙ ap (greater (reach (o ++ p))) (reach_is_joined first second)
    ∙ ap (λ (x : List ℕ). greater x (greater (reach first) (reach second))) (reach_is_joined o p)
    ∙ greater_swap (reach o) (reach p) (reach first) (reach second)
    ∙ ap (λ (x : List ℕ). greater x (greater (reach p) (reach second))) (sym (reach_is_joined o first))
    ∙ ap (greater (reach (o ++ first))) (sym (reach_is_joined p second))

pub reach-moved : {L : Type 0} (axis : Axis L) (d : List ℕ) (move : Row L → Row L) (o : List (List ℕ)) (rows : List (Row L)) → All (MovesOn axis d move) rows → reach_of axis (d ∷ map (sum d) o) (map move rows) ≡ sum (reach_of axis o rows) (lead d)
reach-moved axis d move o rows m =
    ap (λ (x : List (List ℕ)). reach (d ∷ map (sum d) o ++ x)) (points-moved axis d move rows m)
    ∙ ap (λ (x : List (List ℕ)). reach (d ∷ x)) (sym (map-append (sum d) o (points axis rows)))
    ∙ reach_is_moved d (o ++ points axis rows)

-- ---- rows, one after another

-- the reach of the first rows
abbrev pub RowsReached : {L : Type 0} → Axis L → List (Row L) → List ℕ → Type 0
RowsReached axis rows now = now ≡ reach_of axis [] rows

pub row-reached : {L : Type 0} (axis : Axis L) (rows : List (Row L)) (i : ℕ) (row : Row L) (now made : List ℕ) → i < length rows → row ≡ get_or rows i row → RowsReached axis (take i rows) now
    → made ≡ greater now (greater (lead (axis.coordinate row)) (lead (end_on axis row))) → RowsReached axis (take (i + 1) rows) made
row-reached {L} axis rows i row now made lt at so_far is =
    is ∙ ap (λ (x : List ℕ). greater x (greater (lead (axis.coordinate row)) (lead (end_on axis row)))) so_far
    ∙ ap (greater (reach_of axis [] (take i rows))) (sym (reach-row axis row))
    ∙ sym (reach-joined axis [] [] (take i rows) (row ∷ []))
    ∙ ap (reach_of axis []) (ap (λ (r : Row L). take i rows ++ r ∷ []) at ∙ sym (take_more rows i row lt))

pub rows-reached : {L : Type 0} (axis : Axis L) (rows : List (Row L)) (i : ℕ) (now : List ℕ) → length rows ≤ i → RowsReached axis (take i rows) now → now ≡ reach_of axis [] rows
rows-reached axis rows i now le so_far = so_far ∙ ap (reach_of axis []) (take_all i rows le)

-- ---- branches, one after another

pub branch_reach-first : {L : Type 0} (w : Widths L) → WidthsStay w → (nodes : List (Shape L)) → AreWellFormed w nodes → (branch : Branch) → branch.node.0 < length nodes
    → reach_of (first_axis w) (branch_origins (first_axis w) (origins_table (first_axis w) nodes) branch) (branch_rows (rows_table nodes) branch) ≡ sum (reach_below (first_axis w) nodes branch.node.0) (lead branch.first)
branch_reach-first w stay nodes well_formed branch lt =
    let rows = rows_of nodes branch.node.0 in
    reach-moved (first_axis w) branch.first (moved branch.first branch.second) (get_or (origins_table (first_axis w) nodes) branch.node.0 []) rows
    (all_move_first w branch.first branch.second rows (all_move w stay rows (rows-well_formed w nodes branch.node.0 well_formed lt)))

pub branch_reach-second : {L : Type 0} (w : Widths L) → WidthsStay w → (nodes : List (Shape L)) → AreWellFormed w nodes → (branch : Branch) → branch.node.0 < length nodes
    → reach_of (second_axis w) (branch_origins (second_axis w) (origins_table (second_axis w) nodes) branch) (branch_rows (rows_table nodes) branch) ≡ sum (reach_below (second_axis w) nodes branch.node.0) (lead branch.second)
branch_reach-second w stay nodes well_formed branch lt =
    let rows = rows_of nodes branch.node.0 in
    reach-moved (second_axis w) branch.second (moved branch.first branch.second) (get_or (origins_table (second_axis w) nodes) branch.node.0 []) rows
    (all_move_second w branch.first branch.second rows (all_move w stay rows (rows-well_formed w nodes branch.node.0 well_formed lt)))

branches_one : {L : Type 0} (axis : Axis L) (nodes : List (Shape L)) (branch : Branch) → branches_reach axis nodes (branch ∷ []) ≡ reach_of axis (branch_origins axis (origins_table axis nodes) branch) (branch_rows (rows_table nodes) branch)
branches_one axis nodes branch =
    ap (λ (o : List (List ℕ)). reach_of axis o (branch_rows (rows_table nodes) branch ++ [])) (append-nil (branch_origins axis (origins_table axis nodes) branch))
    ∙ ap (reach_of axis (branch_origins axis (origins_table axis nodes) branch)) (append-nil (branch_rows (rows_table nodes) branch))

branches_more : {L : Type 0} (axis : Axis L) (nodes : List (Shape L)) (branches more : List Branch) → branches_reach axis nodes (branches ++ more) ≡ greater (branches_reach axis nodes branches) (branches_reach axis nodes more)
branches_more axis nodes branches more =
    let origins = branch_origins axis (origins_table axis nodes) in
    let rows = branch_rows (rows_table nodes) in
    ap (λ (o : List (List ℕ)). reach_of axis o (flat_map rows (branches ++ more))) (flat_map-append origins branches more)
    ∙ ap (reach_of axis (flat_map origins branches ++ flat_map origins more)) (flat_map-append rows branches more)
    ∙ reach-joined axis (flat_map origins branches) (flat_map origins more) (flat_map rows branches) (flat_map rows more)

pub branch-reached : {L : Type 0} (axis : Axis L) (nodes : List (Shape L)) (branches : List Branch) (i : ℕ) (branch : Branch) (now made reached : List ℕ) → i < length branches → branch ≡ get_or branches i branch → now ≡ branches_reach axis nodes (take i branches)
    → reach_of axis (branch_origins axis (origins_table axis nodes) branch) (branch_rows (rows_table nodes) branch) ≡ reached → made ≡ greater now reached → made ≡ branches_reach axis nodes (take (i + 1) branches)
branch-reached axis nodes branches i branch now made reached lt at so_far one is =
    is ∙ ap (λ (x : List ℕ). greater x reached) so_far
    ∙ ap (greater (branches_reach axis nodes (take i branches))) (sym (branches_one axis nodes branch ∙ one))
    ∙ sym (branches_more axis nodes (take i branches) (branch ∷ []))
    ∙ ap (branches_reach axis nodes) (ap (λ (b : Branch). take i branches ++ b ∷ []) at ∙ sym (take_more branches i branch lt))

-- ---- a node

pub reach-inner : {L : Type 0} (w : Widths L) (axis : Axis L) (nodes : List (Shape L)) → AreWellFormed w nodes → (k : ℕ) (branches : List Branch) (i : ℕ) (now : List ℕ) → k < length nodes → node_at nodes k ≡ Branches branches → length branches ≤ i
    → now ≡ branches_reach axis nodes (take i branches) → now ≡ reach_below axis nodes k
reach-inner {L} w axis nodes well_formed k branches i now lt is le so_far =
    let origins = origins-said w axis nodes k well_formed lt ∙ ap (origins_in axis (origins_table axis nodes)) is in
    let rows = rows-said w nodes k well_formed lt ∙ ap (rows_in (rows_table nodes)) is in
    so_far ∙ ap (branches_reach axis nodes) (take_all i branches le)
    ∙ ap (λ (o : List (List ℕ)). reach_of axis o (flat_map (branch_rows (rows_table nodes)) branches)) (sym origins)
    ∙ ap (reach_of axis (get_or (origins_table axis nodes) k [])) (sym rows)

pub reach-bottom : {L : Type 0} (w : Widths L) (axis : Axis L) (nodes : List (Shape L)) → AreWellFormed w nodes → (k : ℕ) (rows : List (Row L)) (now : List ℕ) → k < length nodes → node_at nodes k ≡ Rows rows → now ≡ reach_of axis [] rows → now ≡ reach_below axis nodes k
reach-bottom w axis nodes well_formed k rows now lt is reached =
    let origins = origins-said w axis nodes k well_formed lt ∙ ap (origins_in axis (origins_table axis nodes)) is in
    let own = rows-said w nodes k well_formed lt ∙ ap (rows_in (rows_table nodes)) is in
    reached ∙ ap (λ (o : List (List ℕ)). reach_of axis o rows) (sym origins) ∙ ap (reach_of axis (get_or (origins_table axis nodes) k [])) (sym own)

pub bottom-well_formed : {L : Type 0} (w : Widths L) (nodes : List (Shape L)) → AreWellFormed w nodes → (k : ℕ) (rows : List (Row L)) → k < length nodes → node_at nodes k ≡ Rows rows → All (IsWellFormedRow w) rows
bottom-well_formed w nodes well_formed k rows lt is = subst (All (IsWellFormedRow w)) (rows-said w nodes k well_formed lt ∙ ap (rows_in (rows_table nodes)) is) (rows-well_formed w nodes k well_formed lt)

-- a branch under a node
pub record IsChild {L : Type 0} (w : Widths L) (nodes : List (Shape L)) (k : ℕ) (branch : Branch) : Type 0 where
  pub lower : branch.node.0 < k
  pub part : IsWellFormedPart w nodes branch

pub child-well_formed : {L : Type 0} (w : Widths L) (nodes : List (Shape L)) → AreWellFormed w nodes → (k : ℕ) (branches : List Branch) (i : ℕ) (branch : Branch) → k < length nodes → node_at nodes k ≡ Branches branches → i < length branches → branch ≡ get_or branches i branch → IsChild w nodes k branch
child-well_formed w nodes well_formed k branches i branch lt is short item = record {
  lower = item-well_formed (λ x. x.node.0 < k) branches i branch short item (subst (NamesBelow k) is (names_below w nodes k well_formed lt));
  part = item-well_formed (IsWellFormedPart w nodes) branches i branch short item (node-parts w nodes branches (subst (IsWellFormed w nodes) is (well_formed-now w nodes k well_formed lt)));
}
