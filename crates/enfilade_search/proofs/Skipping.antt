-- A child that is skipped has no row that is sought.
use Rattle.std.proofs.Common.{◌≡◌, ◌≢◌, ℕ, ◌^◌, ◌<◌, Bool, true, false, not, cond, List, [], ◌∷◌, ◌++◌, map, refl, arith, ap, ◌∙◌, sym, subst, append-nil}
use Rattle.std.specs.List.{All, filter}
use Rattle.std.proofs.lemmas.Bool.{and_from, not_from_false, false_from_ne_true}
use Rattle.std.proofs.lemmas.List.Elements.{All-head, All-tail, All-nil, All-cons, All-weaker}
use Rattle.tumbler.specs.Places.{IsTumbler, IsBefore, IsUpTo, Fits, comes_before, sum}
use Rattle.tumbler.proofs.Order.{upto_before, upto_upto}
use Rattle.tumbler.proofs.Before.{true_if_before, false_if_up_to}
use Rattle.tumbler.proofs.Sums.{sum-upto}
use Rattle.tumbler.proofs.SumOrder.{fits_if_tumbler}
use Rattle.enfilade_core.specs.declared.tree.Row.{Row}
use Rattle.enfilade_core.specs.declared.tree.Branch.{Branch}
use Rattle.enfilade_core.specs.Rows.{Shape, moved, rows_of}
use Rattle.enfilade_core.specs.Axes.{Widths, Axis, WidthsStay, first_axis, second_axis, end_on, greatest_end, IsWellFormedRow}
use Rattle.enfilade_core.specs.WellFormed.{IsWellFormedBranch, AreWellFormed}
use Rattle.enfilade_core.proofs.Parts.{rows-well_formed}
use Rattle.enfilade_core.specs.Laws.{rows_from}
use Rattle.enfilade_core.proofs.Tells.{Moves, MovesOn, all_move, moves_first, moves_second, greatest_end-moved}
use Rattle.enfilade_search.specs.declared.sought.By.{By}
use Rattle.enfilade_search.specs.declared.sought.By.TheVariants.{Place, First, Second}
use Rattle.enfilade_search.specs.declared.sought.Sought.{Sought}
use Rattle.enfilade_search.specs.Meeting.{touches}
use Rattle.enfilade_search.specs.Sought.{axis_by, side_by, width_by, is_sought, can_hold, ChildFits}
use Rattle.enfilade_search.proofs.Touching.{first_up_to_later, second_up_to_later, tumbler-later, touches-ends}

-- ---- one row

pub sought_ends : {L : Type 0} (w : Widths L) (by : By) (from to : List ℕ) (row : Row L) → IsWellFormedRow w row → touches from to (side_by by row.first row.second) (width_by w by row) ≡ true
    → IsBefore (side_by by row.first row.second) to × IsUpTo from (end_on (axis_by w by) row)
sought_ends w Place from to row well_formed h =
    let ends = touches-ends from to row.first [] h in
    (ends.0, upto_upto from row.first (sum row.first (w.first row)) ends.1 (sum-upto row.first (w.first row) well_formed.first_width.ends))
sought_ends w First from to row well_formed h = touches-ends from to row.first (w.first row) h
sought_ends w Second from to row well_formed h = touches-ends from to row.second (w.second row) h

-- ---- rows together

-- all rows are at an origin or past it, and none ends past a limit
pub record LieIn {L : Type 0} (w : Widths L) (by : By) (origin limit : List ℕ) (row : Row L) : Type 0 where
  pub well_formed : IsWellFormedRow w row
  pub past : IsUpTo origin (side_by by row.first row.second)
  pub up_to : IsUpTo (end_on (axis_by w by) row) limit

none_sought : {L : Type 0} (w : Widths L) (sought : Sought) (origin limit : List ℕ) → (IsBefore origin sought.to → IsUpTo sought.from limit → ⊥) → (rows : List (Row L)) → All (LieIn w sought.by origin limit) rows → filter (is_sought w sought) rows ≡ []
none_sought w sought origin limit apart [] h = refl
none_sought w sought origin limit apart (row ∷ rows) h =
    let P = LieIn w sought.by origin limit in
    let here = All-head P row rows h in
    let coordinate = side_by sought.by row.first row.second in
    let not_here : is_sought w sought row ≡ false = false_from_ne_true (is_sought w sought row) (λ is.
    let ends = sought_ends w sought.by sought.from sought.to row here.well_formed is in
    apart (upto_before origin coordinate sought.to here.past ends.0) (upto_upto sought.from (end_on (axis_by w sought.by) row) limit ends.1 here.up_to)) in
    ap (λ t. cond t (row ∷ filter (is_sought w sought) rows) (filter (is_sought w sought) rows)) not_here ∙ none_sought w sought origin limit apart rows (All-tail P row rows h)

-- ---- the rows of a child

ends_up_to : {L : Type 0} (axis : Axis L) (rows : List (Row L)) → All (λ r. IsUpTo (end_on axis r) (greatest_end axis rows)) rows
ends_up_to axis [] = All-nil (λ r. IsUpTo (end_on axis r) (greatest_end axis []))
ends_up_to axis (row ∷ rows) =
    let P : Row _ → Type 0 = λ r. IsUpTo (end_on axis r) (greatest_end axis (row ∷ rows)) in
    let rest = greatest_end axis rows in
    All-cons P row rows (first_up_to_later (end_on axis row) rest)
    (All-weaker (λ r. IsUpTo (end_on axis r) rest) P (λ r le. upto_upto (end_on axis r) rest (greatest_end axis (row ∷ rows)) le (second_up_to_later (end_on axis row) rest)) rows (ends_up_to axis rows))

origin_up_to : {L : Type 0} (w : Widths L) (by : By) (a b : List ℕ) (row : Row L) → IsWellFormedRow w row → IsUpTo (side_by by a b) (side_by by (sum a row.first) (sum b row.second))
origin_up_to w Place a b row well_formed = sum-upto a row.first well_formed.first_coordinate.ends
origin_up_to w First a b row well_formed = sum-upto a row.first well_formed.first_coordinate.ends
origin_up_to w Second a b row well_formed = sum-upto b row.second well_formed.second_coordinate.ends

lie_in : {L : Type 0} (w : Widths L) (by : By) (a b limit : List ℕ) (rows : List (Row L)) → All (IsWellFormedRow w) rows → All (IsWellFormedRow w) (map (moved a b) rows)
    → All (λ r. IsUpTo (end_on (axis_by w by) r) limit) (map (moved a b) rows) → All (LieIn w by (side_by by a b) limit) (map (moved a b) rows)
lie_in w by a b limit [] own there ends = All-nil (LieIn w by (side_by by a b) limit)
lie_in w by a b limit (row ∷ rows) own there ends =
    let more = map (moved a b) rows in
    let U : Row _ → Type 0 = λ r. IsUpTo (end_on (axis_by w by) r) limit in
    All-cons (LieIn w by (side_by by a b) limit) (moved a b row) more
    record {
      well_formed = All-head (IsWellFormedRow w) (moved a b row) more there;
      past = origin_up_to w by a b row (All-head (IsWellFormedRow w) row rows own);
      up_to = All-head U (moved a b row) more ends;
    }
    (lie_in w by a b limit rows (All-tail (IsWellFormedRow w) row rows own) (All-tail (IsWellFormedRow w) (moved a b row) more there) (All-tail U (moved a b row) more ends))

end_moved : {L : Type 0} (w : Widths L) → WidthsStay w → (by : By) (a b : List ℕ) (rows : List (Row L)) → rows ≢ [] → All (IsWellFormedRow w) rows
    → greatest_end (axis_by w by) (map (moved a b) rows) ≡ sum (side_by by a b) (greatest_end (axis_by w by) rows)
end_moved w stay Place a b rows some well_formed = greatest_end-moved (first_axis w) a (moved a b) rows some (All-weaker (Moves w) (MovesOn (first_axis w) a (moved a b)) (moves_first w a b) rows (all_move w stay rows well_formed))
end_moved w stay First a b rows some well_formed = greatest_end-moved (first_axis w) a (moved a b) rows some (All-weaker (Moves w) (MovesOn (first_axis w) a (moved a b)) (moves_first w a b) rows (all_move w stay rows well_formed))
end_moved w stay Second a b rows some well_formed = greatest_end-moved (second_axis w) b (moved a b) rows some (All-weaker (Moves w) (MovesOn (second_axis w) b (moved a b)) (moves_second w a b) rows (all_move w stay rows well_formed))

extent_is : {L : Type 0} (w : Widths L) (nodes : List (Shape L)) (by : By) (child : Branch) → IsWellFormedBranch w nodes child → side_by by child.first_extent child.second_extent ≡ greatest_end (axis_by w by) (rows_of nodes child.node.0)
extent_is w nodes Place child well_formed = well_formed.first_extent
extent_is w nodes First child well_formed = well_formed.first_extent
extent_is w nodes Second child well_formed = well_formed.second_extent

-- the end of a child is the greatest end of its rows
pub child_end : {L : Type 0} (w : Widths L) → WidthsStay w → (nodes : List (Shape L)) (by : By) (child : Branch) (a b : List ℕ) → All (IsWellFormedRow w) (rows_of nodes child.node.0) → IsWellFormedBranch w nodes child
    → sum (side_by by a b) (side_by by child.first_extent child.second_extent) ≡ greatest_end (axis_by w by) (rows_from nodes child.node.0 a b)
child_end w stay nodes by child a b own well_formed =
    ap (sum (side_by by a b)) (extent_is w nodes by child well_formed) ∙ sym (end_moved w stay by a b (rows_of nodes child.node.0) well_formed.filled own)

-- a child that cannot hold what is sought has none of it
pub skipped : {L : Type 0} (w : Widths L) → WidthsStay w → (nodes : List (Shape L)) (sought : Sought) (child : Branch) (a b : List ℕ) → All (IsWellFormedRow w) (rows_of nodes child.node.0) → IsWellFormedBranch w nodes child
    → All (IsWellFormedRow w) (rows_from nodes child.node.0 a b) → can_hold sought (side_by sought.by a b) (side_by sought.by child.first_extent child.second_extent) ≡ false
    → filter (is_sought w sought) (rows_from nodes child.node.0 a b) ≡ []
skipped w stay nodes sought child a b own well_formed there cannot =
    let origin = side_by sought.by a b in
    let limit = sum origin (side_by sought.by child.first_extent child.second_extent) in
    let ends = subst (λ (x : List ℕ). All (λ r. IsUpTo (end_on (axis_by w sought.by) r) x) (rows_from nodes child.node.0 a b)) (sym (child_end w stay nodes sought.by child a b own well_formed)) (ends_up_to (axis_by w sought.by) (rows_from nodes child.node.0 a b)) in
    none_sought w sought origin limit
    (λ lt le. let can : can_hold sought origin (side_by sought.by child.first_extent child.second_extent) ≡ true =
    and_from (not (comes_before limit sought.from)) (comes_before origin sought.to) (not_from_false (comes_before limit sought.from) (false_if_up_to limit sought.from le)) (true_if_before origin sought.to lt) in
    cc)
    (rows_from nodes child.node.0 a b) (lie_in w sought.by a b limit (rows_of nodes child.node.0) own there ends)

-- ---- the sums that the code makes

end-tumbler : {L : Type 0} (w : Widths L) (by : By) (row : Row L) → IsWellFormedRow w row → IsTumbler (end_on (axis_by w by) row)
end-tumbler w Place row well_formed = well_formed.first_end
end-tumbler w First row well_formed = well_formed.first_end
end-tumbler w Second row well_formed = well_formed.second_end

no-tumbler : IsTumbler []
no-tumbler = record { few = omega arith; small = All-nil (λ p. p < 2 ^ 32); ends = λ _. refl }

greatest-tumbler : {L : Type 0} (w : Widths L) (by : By) (rows : List (Row L)) → All (IsWellFormedRow w) rows → IsTumbler (greatest_end (axis_by w by) rows)
greatest-tumbler w by [] h = no-tumbler
greatest-tumbler w by (row ∷ rows) h =
    tumbler-later (end_on (axis_by w by) row) (greatest_end (axis_by w by) rows) (end-tumbler w by row (All-head (IsWellFormedRow w) row rows h)) (greatest-tumbler w by rows (All-tail (IsWellFormedRow w) row rows h))

pub extent_fits : {L : Type 0} (w : Widths L) → WidthsStay w → (nodes : List (Shape L)) (by : By) (child : Branch) (a b : List ℕ) → All (IsWellFormedRow w) (rows_of nodes child.node.0) → IsWellFormedBranch w nodes child
    → All (IsWellFormedRow w) (rows_from nodes child.node.0 a b) → Fits (side_by by a b) (side_by by child.first_extent child.second_extent)
extent_fits w stay nodes by child a b own well_formed there =
    fits_if_tumbler (side_by by a b) (side_by by child.first_extent child.second_extent)
    (subst IsTumbler (sym (child_end w stay nodes by child a b own well_formed)) (greatest-tumbler w by (rows_from nodes child.node.0 a b) there))

-- ---- a child, where its node is seen from a base

pub child_extent_fits : {L : Type 0} (w : Widths L) → WidthsStay w → (nodes : List (Shape L)) → AreWellFormed w nodes → (by : By) (child : Branch) (a b first second : List ℕ) → ChildFits w nodes child a b → first ≡ sum a child.first → second ≡ sum b child.second
    → Fits (side_by by first second) (side_by by child.first_extent child.second_extent)
child_extent_fits w stay nodes well_formed by child a b first second fits f s =
    let extent = side_by by child.first_extent child.second_extent in
    subst (λ (x : List ℕ). Fits (side_by by x second) extent) (sym f)
    (subst (λ (x : List ℕ). Fits (side_by by (sum a child.first) x) extent) (sym s)
    (extent_fits w stay nodes by child (sum a child.first) (sum b child.second) (rows-well_formed w nodes child.node.0 well_formed fits.branch.below) fits.branch fits.below.rows))

pub child_skipped : {L : Type 0} (w : Widths L) → WidthsStay w → (nodes : List (Shape L)) → AreWellFormed w nodes → (sought : Sought) (child : Branch) (a b first second : List ℕ) (can : Bool) (held : List (Row L)) → ChildFits w nodes child a b
    → first ≡ sum a child.first → second ≡ sum b child.second → can ≡ can_hold sought (side_by sought.by first second) (side_by sought.by child.first_extent child.second_extent) → can ≡ false
    → held ≡ held ++ filter (is_sought w sought) (rows_from nodes child.node.0 (sum a child.first) (sum b child.second))
child_skipped w stay nodes well_formed sought child a b first second can held fits f s is cannot =
    let extent = side_by sought.by child.first_extent child.second_extent in
    let there : can_hold sought (side_by sought.by (sum a child.first) (sum b child.second)) extent ≡ false =
    ap (λ (x : List ℕ). can_hold sought (side_by sought.by x (sum b child.second)) extent) (sym f) ∙ ap (λ (x : List ℕ). can_hold sought (side_by sought.by first x) extent) (sym s) ∙ sym is ∙ cannot in
    let none = skipped w stay nodes sought child (sum a child.first) (sum b child.second) (rows-well_formed w nodes child.node.0 well_formed fits.branch.below) fits.branch fits.below.rows there in
    sym (ap (λ (r : List (Row _)). held ++ r) none ∙ append-nil held)
