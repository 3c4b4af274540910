-- Places, and rows of branches, as they are seen from a base.
use Rattle.std.proofs.Common.{◌≡◌, ℕ, true, false, List, [], ◌∷◌, ◌++◌, take, drop, map, refl, ap, ◌∙◌, sym, subst}
use Rattle.std.specs.List.{All}
use Rattle.std.proofs.lemmas.List.{map-append, take-map, drop-map}
use Rattle.std.proofs.lemmas.List.Elements.{All-head, All-tail, All-nil, All-cons, All-map, All-weaker}
use Rattle.tumbler.specs.Places.{EndsWell, IsBefore, IsUpTo, comes_before, sum, difference}
use Rattle.tumbler.proofs.Order.{upto_upto, upto_if_before}
use Rattle.tumbler.proofs.Before.{before_if_true, true_if_before, up_to_if_false, false_if_up_to, never_before_none}
use Rattle.tumbler.proofs.Sums.{sums_keep_order, sum-upto}
use Rattle.tumbler.proofs.SumOrder.{sums_up_to}
use Rattle.tumbler.proofs.Differences.{sum-difference}
use Rattle.enfilade_core.specs.declared.tree.Row.{Row}
use Rattle.enfilade_core.specs.declared.tree.Branch.{Branch}
use Rattle.enfilade_core.specs.declared.gap.Gap.{Gap}
use Rattle.enfilade_core.specs.Rows.{Shape, moved, branch_rows, rows_table, rows_of}
use Rattle.enfilade_core.specs.Axes.{Widths, IsWellFormedRow}
use Rattle.enfilade_core.specs.WellFormed.{IsWellFormedPart}
use Rattle.enfilade_core.specs.Edits.{shifted, shift_row}
use Rattle.enfilade_core.specs.Exchange.{branch_at}
use Rattle.enfilade_core.specs.Touched.{IsSeenFrom, StandBefore, StandPast}
use Rattle.enfilade_core.proofs.Orders.{All-flat}
use Rattle.enfilade_core.proofs.Seen.{rows-moved_twice}
use Rattle.enfilade_core.proofs.ExchangeLists.{AllBefore, NoneBefore}
use Rattle.enfilade_core.proofs.ExchangeGrown.{flat_rows}

-- ---- a coordinate

pub seen-zero : (at base seen : List ℕ) → seen ≡ [] → IsBefore at base → IsSeenFrom at base seen
seen-zero at base seen is lt = rw is record {
  before = λ coordinate e. absurd (never_before_none coordinate (before_if_true coordinate [] e));
  past = λ coordinate ends e. false_if_up_to (sum base coordinate) at (upto_upto at base (sum base coordinate) (upto_if_before at base lt) (sum-upto base coordinate ends));
}

pub seen-minus : (at base seen : List ℕ) → IsUpTo base at → EndsWell seen → seen ≡ difference at base → IsSeenFrom at base seen
seen-minus at base seen le ends e =
    let is : sum base seen ≡ at = ap (sum base) e ∙ sum-difference base at le in
    record {
      before = λ coordinate b. true_if_before (sum base coordinate) at (subst (IsBefore (sum base coordinate)) is (sums_keep_order base coordinate seen ends (before_if_true coordinate seen b)));
      past = λ coordinate well b. false_if_up_to (sum base coordinate) at (subst (λ (x : List ℕ). IsUpTo x (sum base coordinate)) is (sums_up_to base seen coordinate well (up_to_if_false coordinate seen b)));
    }

-- ---- rows of branches

pub seen-before : {L : Type 0} (at base seen : List ℕ) (rows : List (Row L)) → IsSeenFrom at base seen → AllBefore seen rows → All (λ r. comes_before (sum base r.first) at ≡ true) rows
seen-before at base seen rows s h = All-weaker (λ r. comes_before r.first seen ≡ true) (λ r. comes_before (sum base r.first) at ≡ true) (λ r e. s.before r.first e) rows h

pub seen-past : {L : Type 0} (at base seen : List ℕ) (rows : List (Row L)) → IsSeenFrom at base seen → All (λ r. EndsWell r.first) rows → NoneBefore seen rows → All (λ r. comes_before (sum base r.first) at ≡ false) rows
seen-past at base seen [] s ends h = All-nil (λ r. comes_before (sum base r.first) at ≡ false)
seen-past at base seen (row ∷ rows) s ends h =
    let P : Row _ → Type 0 = λ r. EndsWell r.first in
    let Q : Row _ → Type 0 = λ r. comes_before r.first seen ≡ false in
    All-cons (λ r. comes_before (sum base r.first) at ≡ false) row rows (s.past row.first (All-head P row rows ends) (All-head Q row rows h))
    (seen-past at base seen rows s (All-tail P row rows ends) (All-tail Q row rows h))

-- the rows of parts end well
pub parts-end : {L : Type 0} (w : Widths L) (nodes : List (Shape L)) (branches : List Branch) → All (IsWellFormedPart w nodes) branches → All (λ (r : Row L). EndsWell r.first) (flat_rows nodes branches)
parts-end {L} w nodes branches parts =
    All-weaker (IsWellFormedRow w) (λ (r : Row L). EndsWell r.first) (λ r h. h.first_coordinate.ends) (flat_rows nodes branches)
    (All-flat (IsWellFormedRow w) (branch_rows (rows_table nodes)) branches (All-weaker (IsWellFormedPart w nodes) (λ b. All (IsWellFormedRow w) (branch_rows (rows_table nodes) b)) (λ b p. p.rows) branches parts))

-- the rows of branches that are moved are theirs, moved
pub flat-moved : {L : Type 0} (nodes : List (Shape L)) (a b : List ℕ) (branches : List Branch) → flat_rows nodes (map (branch_at a b) branches) ≡ map (moved a b) (flat_rows nodes branches)
flat-moved nodes a b [] = refl
flat-moved {L} nodes a b (branch ∷ branches) =
    ap (λ (r : List (Row L)). r ++ flat_rows nodes (map (branch_at a b) branches)) (sym (rows-moved_twice a b branch.first branch.second (rows_of nodes branch.node.0)))
    ∙ ap (λ (r : List (Row L)). map (moved a b) (branch_rows (rows_table nodes) branch) ++ r) (flat-moved nodes a b branches)
    ∙ sym (map-append (moved a b) (branch_rows (rows_table nodes) branch) (flat_rows nodes branches))

pub before-there : {L : Type 0} (nodes : List (Shape L)) (at a b : List ℕ) (n : ℕ) (branches : List Branch) → StandBefore nodes at a (take n branches) → AllBefore at (flat_rows nodes (take n (map (branch_at a b) branches)))
before-there {L} nodes at a b n branches h =
    subst (AllBefore at) (sym (ap (flat_rows nodes) (take-map (branch_at a b) n branches) ∙ flat-moved nodes a b (take n branches)))
    (All-map (λ (r : Row L). comes_before r.first at ≡ true) (moved a b) (flat_rows nodes (take n branches)) h)

pub past-there : {L : Type 0} (nodes : List (Shape L)) (at a b : List ℕ) (n : ℕ) (branches : List Branch) → StandPast nodes at a (drop n branches) → NoneBefore at (flat_rows nodes (drop n (map (branch_at a b) branches)))
past-there {L} nodes at a b n branches h =
    subst (NoneBefore at) (sym (ap (flat_rows nodes) (drop-map (branch_at a b) n branches) ∙ flat-moved nodes a b (drop n branches)))
    (All-map (λ (r : Row L). comes_before r.first at ≡ false) (moved a b) (flat_rows nodes (drop n branches)) h)

-- ---- rows that stay

pub shift-still : {L : Type 0} (to : List ℕ) (rows : List (Row L)) → NoneBefore to rows → shifted to to rows ≡ rows
shift-still to [] h = refl
shift-still {L} to (row ∷ rows) h =
    let P : Row L → Type 0 = λ r. comes_before r.first to ≡ false in
    ap (λ (r : List (Row L)). shift_row to to row ∷ r) (shift-still to rows (All-tail P row rows h))
    ∙ ap (λ (x : Row L). x ∷ rows) (one row (All-head P row rows h))
  where
    one : {L : Type 0} (row : Row L) → comes_before row.first to ≡ false → shift_row to to row ≡ row
    one row e = rw e (ap (λ (x : List ℕ). record row { first = x }) (sum-difference to row.first (up_to_if_false row.first to e)))
