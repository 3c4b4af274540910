-- A branch is a well formed part exactly where its displacements leave room for what is below.
use Rattle.std.proofs.Common.{◌≡◌, ◌≢◌, ℕ, List, [], ◌∷◌, ◌++◌, length, get_or, map, refl, ◌∙◌, sym, subst}
use Rattle.std.specs.List.{All}
use Rattle.std.proofs.lemmas.List.Elements.{All-head, All-tail, All-nil, All-cons, All-weaker, All-append}
use Rattle.tumbler.specs.Places.{EndsWell, IsTumbler, IsUpTo, sum, Fits}
use Rattle.tumbler.specs.Reach.{HasRoom}
use Rattle.tumbler.proofs.Alls.{All-front, All-back, All-unmapped}
use Rattle.tumbler.proofs.Tumblers.{sum-is_tumbler}
use Rattle.tumbler.proofs.SumOrder.{fits_if_tumbler, length-sum_filled}
use Rattle.tumbler.proofs.Reaches.{reach_is_exact}
use Rattle.enfilade_core.specs.declared.tree.Row.{Row}
use Rattle.enfilade_core.specs.declared.tree.Branch.{Branch}
use Rattle.enfilade_core.specs.Rows.{Shape, moved, branch_rows, rows_table, rows_of}
use Rattle.enfilade_core.specs.Axes.{Widths, first_axis, second_axis, WidthsStay, end_on, IsWellFormedRow}
use Rattle.enfilade_core.specs.WellFormed.{origins_table, IsWellFormedBranch, AreWellFormed, IsWellFormedPart}
use Rattle.enfilade_core.specs.Reach.{points, reach_below}
use Rattle.enfilade_core.specs.Summary.{branch_summary, summaries, row_summary}
use Rattle.enfilade_core.proofs.Parts.{rows-well_formed, rows-ordered, origins-well_formed}
use Rattle.enfilade_core.proofs.Tells.{moves, not_zero, end-moved, moves_first, moves_second}
use Rattle.enfilade_core.proofs.Told.{tells, tells-branch}
use Rattle.enfilade_core.proofs.Orders.{InOrder-moved}
use Rattle.enfilade_core.proofs.Fronts.{ItemTold}

-- ---- one row

record RowFits {L : Type 0} (w : Widths L) (a b : List ℕ) (row : Row L) : Type 0 where
  first_coordinate : Fits a row.first
  first_end : Fits a (end_on (first_axis w) row)
  second_coordinate : Fits b row.second
  second_end : Fits b (end_on (second_axis w) row)

long_width : (d coordinate width more : List ℕ) → EndsWell coordinate → more ≡ width → (width ≢ []) × (length width ≡ length coordinate) → (more ≢ []) × (length more ≡ length (sum d coordinate))
long_width d coordinate width more e same h = rw same (h.0, h.1 ∙ sym (length-sum_filled d coordinate e (not_zero coordinate width h)))

row_well_formed : {L : Type 0} (w : Widths L) → WidthsStay w → (a b : List ℕ) → IsTumbler a → IsTumbler b → (row : Row L) → IsWellFormedRow w row → RowFits w a b row → IsWellFormedRow w (moved a b row)
row_well_formed {L} w stay a b ta tb row well_formed fits =
    let m = moves w stay row well_formed in
    record {
      first_coordinate = sum-is_tumbler a row.first ta well_formed.first_coordinate fits.first_coordinate;
      second_coordinate = sum-is_tumbler b row.second tb well_formed.second_coordinate fits.second_coordinate;
      first_width = subst IsTumbler (sym (m.first_stays a b)) well_formed.first_width;
      second_width = subst IsTumbler (sym (m.second_stays a b)) well_formed.second_width;
      first_end = subst IsTumbler (sym (end-moved (first_axis w) a (moved a b) row (moves_first w a b row m))) (sum-is_tumbler a (end_on (first_axis w) row) ta well_formed.first_end fits.first_end);
      second_end = subst IsTumbler (sym (end-moved (second_axis w) b (moved a b) row (moves_second w a b row m))) (sum-is_tumbler b (end_on (second_axis w) row) tb well_formed.second_end fits.second_end);
      proper = (
        λ strict. long_width a row.first (w.first row) (w.first (moved a b row)) well_formed.first_coordinate.ends (m.first_stays a b) (well_formed.proper.0 strict),
        λ strict. long_width b row.second (w.second row) (w.second (moved a b row)) well_formed.second_coordinate.ends (m.second_stays a b) (well_formed.proper.1 strict),
      );
    }

row_fits : {L : Type 0} (w : Widths L) → WidthsStay w → (a b : List ℕ) → (row : Row L) → IsWellFormedRow w row → IsWellFormedRow w (moved a b row) → RowFits w a b row
row_fits w stay a b row well_formed there =
    let m = moves w stay row well_formed in
    record {
      first_coordinate = fits_if_tumbler a row.first there.first_coordinate;
      first_end = fits_if_tumbler a (end_on (first_axis w) row) (subst IsTumbler (end-moved (first_axis w) a (moved a b) row (moves_first w a b row m)) there.first_end);
      second_coordinate = fits_if_tumbler b row.second there.second_coordinate;
      second_end = fits_if_tumbler b (end_on (second_axis w) row) (subst IsTumbler (end-moved (second_axis w) b (moved a b) row (moves_second w a b row m)) there.second_end);
    }

-- ---- all rows

rows_well_formed : {L : Type 0} (w : Widths L) → WidthsStay w → (a b : List ℕ) → IsTumbler a → IsTumbler b → (rows : List (Row L)) → All (IsWellFormedRow w) rows → All (Fits a) (points (first_axis w) rows) → All (Fits b) (points (second_axis w) rows) → All (IsWellFormedRow w) (map (moved a b) rows)
rows_well_formed w stay a b ta tb [] well_formed f g = All-nil (IsWellFormedRow w)
rows_well_formed w stay a b ta tb (row ∷ rows) well_formed f g =
    let p1 = points (first_axis w) rows in
    let p2 = points (second_axis w) rows in
    let e1 = end_on (first_axis w) row in
    let e2 = end_on (second_axis w) row in
    let f2 = All-tail (Fits a) row.first (e1 ∷ p1) f in
    let g2 = All-tail (Fits b) row.second (e2 ∷ p2) g in
    All-cons (IsWellFormedRow w) (moved a b row) (map (moved a b) rows)
    (row_well_formed w stay a b ta tb row (All-head (IsWellFormedRow w) row rows well_formed) record {
      first_coordinate = All-head (Fits a) row.first (e1 ∷ p1) f;
      first_end = All-head (Fits a) e1 p1 f2;
      second_coordinate = All-head (Fits b) row.second (e2 ∷ p2) g;
      second_end = All-head (Fits b) e2 p2 g2;
    })
    (rows_well_formed w stay a b ta tb rows (All-tail (IsWellFormedRow w) row rows well_formed) (All-tail (Fits a) e1 p1 f2) (All-tail (Fits b) e2 p2 g2))

rows_fit : {L : Type 0} (w : Widths L) → WidthsStay w → (a b : List ℕ) → (rows : List (Row L)) → All (IsWellFormedRow w) rows → All (IsWellFormedRow w) (map (moved a b) rows) → All (Fits a) (points (first_axis w) rows) × All (Fits b) (points (second_axis w) rows)
rows_fit w stay a b [] well_formed there = (All-nil (Fits a), All-nil (Fits b))
rows_fit w stay a b (row ∷ rows) well_formed there =
    let p1 = points (first_axis w) rows in
    let p2 = points (second_axis w) rows in
    let e1 = end_on (first_axis w) row in
    let e2 = end_on (second_axis w) row in
    let one = row_fits w stay a b row (All-head (IsWellFormedRow w) row rows well_formed) (All-head (IsWellFormedRow w) (moved a b row) (map (moved a b) rows) there) in
    let rest = rows_fit w stay a b rows (All-tail (IsWellFormedRow w) row rows well_formed) (All-tail (IsWellFormedRow w) (moved a b row) (map (moved a b) rows) there) in (
      All-cons (Fits a) row.first (e1 ∷ p1) one.first_coordinate (All-cons (Fits a) e1 p1 one.first_end rest.0),
      All-cons (Fits b) row.second (e2 ∷ p2) one.second_coordinate (All-cons (Fits b) e2 p2 one.second_end rest.1),
    )

-- ---- origins

origins_well_formed : (d : List ℕ) (origins : List (List ℕ)) → IsTumbler d → All IsTumbler origins → All (Fits d) origins → All IsTumbler (map (sum d) origins)
origins_well_formed d [] t h f = All-nil IsTumbler
origins_well_formed d (o ∷ origins) t h f =
    All-cons IsTumbler (sum d o) (map (sum d) origins) (sum-is_tumbler d o t (All-head IsTumbler o origins h) (All-head (Fits d) o origins f))
    (origins_well_formed d origins t (All-tail IsTumbler o origins h) (All-tail (Fits d) o origins f))

origins_fit : (d : List ℕ) (origins : List (List ℕ)) → All IsTumbler (map (sum d) origins) → All (Fits d) origins
origins_fit d origins h = All-weaker (λ o. IsTumbler (sum d o)) (Fits d) (fits_if_tumbler d) origins (All-unmapped IsTumbler (sum d) origins h)

-- ---- a branch

-- room for all that is below a branch
pub record HasRoomBelow {L : Type 0} (w : Widths L) (nodes : List (Shape L)) (part : Branch) : Type 0 where
  pub first : HasRoom part.first (reach_below (first_axis w) nodes part.node.0)
  pub second : HasRoom part.second (reach_below (second_axis w) nodes part.node.0)

pub part-if_room : {L : Type 0} (w : Widths L) → WidthsStay w → (nodes : List (Shape L)) → AreWellFormed w nodes → (part : Branch) → IsTumbler part.first → IsTumbler part.second → IsWellFormedBranch w nodes part → HasRoomBelow w nodes part → IsWellFormedPart w nodes part
part-if_room w stay nodes well_formed part ta tb b room =
    let k = part.node.0 in
    let rows = rows_of nodes k in
    let o1 = get_or (origins_table (first_axis w) nodes) k [] in
    let o2 = get_or (origins_table (second_axis w) nodes) k [] in
    let p1 = points (first_axis w) rows in
    let p2 = points (second_axis w) rows in
    let fits1 = (reach_is_exact part.first (o1 ++ p1) ta.small).1 room.first in
    let fits2 = (reach_is_exact part.second (o2 ++ p2) tb.small).1 room.second in
    let below = origins-well_formed w nodes k well_formed b.below in
    record {
      branch = b;
      first_origins = All-cons IsTumbler part.first (map (sum part.first) o1) ta (origins_well_formed part.first o1 ta below.0 (All-front (Fits part.first) o1 p1 fits1));
      second_origins = All-cons IsTumbler part.second (map (sum part.second) o2) tb (origins_well_formed part.second o2 tb below.1 (All-front (Fits part.second) o2 p2 fits2));
      rows = rows_well_formed w stay part.first part.second ta tb rows (rows-well_formed w nodes k well_formed b.below) (All-back (Fits part.first) o1 p1 fits1) (All-back (Fits part.second) o2 p2 fits2);
    }

pub room-if_part : {L : Type 0} (w : Widths L) → WidthsStay w → (nodes : List (Shape L)) → AreWellFormed w nodes → (part : Branch) → IsWellFormedPart w nodes part → HasRoomBelow w nodes part
room-if_part w stay nodes well_formed part is =
    let k = part.node.0 in
    let b = is.branch in
    let rows = rows_of nodes k in
    let o1 = get_or (origins_table (first_axis w) nodes) k [] in
    let o2 = get_or (origins_table (second_axis w) nodes) k [] in
    let p1 = points (first_axis w) rows in
    let p2 = points (second_axis w) rows in
    let fit = rows_fit w stay part.first part.second rows (rows-well_formed w nodes k well_formed b.below) is.rows in
    let ta = All-head IsTumbler part.first (map (sum part.first) o1) is.first_origins in
    let tb = All-head IsTumbler part.second (map (sum part.second) o2) is.second_origins in
    let f1 = origins_fit part.first o1 (All-tail IsTumbler part.first (map (sum part.first) o1) is.first_origins) in
    let f2 = origins_fit part.second o2 (All-tail IsTumbler part.second (map (sum part.second) o2) is.second_origins) in
    record {
      first = (reach_is_exact part.first (o1 ++ p1) ta.small).0 (All-append (Fits part.first) o1 p1 f1 fit.0);
      second = (reach_is_exact part.second (o2 ++ p2) tb.small).0 (All-append (Fits part.second) o2 p2 f2 fit.1);
    }

-- ---- what is told of a child

pub part-told : {L : Type 0} (w : Widths L) → WidthsStay w → (nodes : List (Shape L)) → AreWellFormed w nodes → (part : Branch) → IsWellFormedPart w nodes part → ItemTold (branch_rows (rows_table nodes)) (branch_summary (summaries w nodes)) part
part-told w stay nodes well_formed part is =
    let b = is.branch in
    let told = tells-branch w stay nodes well_formed part b (tells w stay nodes well_formed part.node.0 b.below) in
    let rows = rows_of nodes part.node.0 in
    record {
      some = told.some;
      leaves = told.tells.leaves;
      first = told.tells.first;
      last = told.tells.last;
      ordered = InOrder-moved part.first part.second rows (All-weaker (IsWellFormedRow w) (λ r. EndsWell r.first) (λ r h. h.first_coordinate.ends) rows (rows-well_formed w nodes part.node.0 well_formed b.below)) (rows-ordered w nodes part.node.0 well_formed b.below);
    }

pub row-told : {L : Type 0} (w : Widths L) (row : Row L) → IsWellFormedRow w row → ItemTold (λ r. r ∷ []) (row_summary w) row
row-told w row well_formed = record { some = λ q. cc; leaves = refl; first = refl; last = refl; ordered = (All-nil (λ r. IsUpTo row.first r.first), tt) }
