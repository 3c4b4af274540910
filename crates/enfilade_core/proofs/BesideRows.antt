-- Where the rows of a branch begin and end, and how they stand beside a coordinate.
use Rattle.std.proofs.Common.{◌≡◌, ◌≢◌, ℕ, true, false, List, [], ◌∷◌, get_or, map, refl, ap, ◌∙◌, sym, subst}
use Rattle.std.specs.List.{All}
use Rattle.std.proofs.lemmas.List.Elements.{All-head, All-tail, All-nil, All-cons, All-weaker}
use Rattle.tumbler.specs.Places.{EndsWell, IsTumbler, IsUpTo, comes_before, sum, difference, Fits}
use Rattle.tumbler.specs.Reach.{IsCovered}
use Rattle.tumbler.proofs.Order.{upto_before, upto_upto}
use Rattle.tumbler.proofs.Before.{before_if_true, true_if_before, up_to_if_false, false_if_up_to}
use Rattle.tumbler.proofs.Sums.{sums_associate, sum-upto}
use Rattle.tumbler.proofs.SumOrder.{difference-sum}
use Rattle.tumbler.proofs.Tumblers.{sum-is_tumbler}
use Rattle.tumbler.proofs.Covered.{covered_fits}
use Rattle.enfilade_core.specs.declared.tree.Row.{Row}
use Rattle.enfilade_core.specs.declared.tree.Branch.{Branch}
use Rattle.enfilade_core.specs.declared.summary.Summary.{Summary}
use Rattle.enfilade_core.specs.Rows.{Shape, moved, branch_rows, rows_table, rows_of}
use Rattle.enfilade_core.specs.Axes.{Widths, first_axis, WidthsStay, InOrder, IsWellFormedRow}
use Rattle.enfilade_core.specs.WellFormed.{origins_table, AreWellFormed, IsWellFormedPart}
use Rattle.enfilade_core.specs.Summary.{summary_of, kept, height_of}
use Rattle.enfilade_core.specs.Following.{first_coordinate, last_coordinate}
use Rattle.enfilade_core.specs.Edits.{is_within, shift_row, shifted}
use Rattle.enfilade_core.specs.Exchange.{BranchHasRows}
use Rattle.enfilade_core.proofs.Parts.{rows-well_formed, origins-well_formed}
use Rattle.enfilade_core.proofs.Orders.{past_first, up_to_last}
use Rattle.enfilade_core.proofs.PartTests.{room-if_part, part-told}
use Rattle.enfilade_core.proofs.BranchTests.{moves-there}
use Rattle.enfilade_core.proofs.Tells.{last_coordinate-moved}
use Rattle.enfilade_core.proofs.Told.{tells}
use Rattle.enfilade_core.proofs.OriginsUpTo.{AreUpTo, last-well_formed, origins-up_to}

-- ---- the first and the last row

-- what is kept of a branch's node tells where its rows begin and end
pub record EndsTold {L : Type 0} (nodes : List (Shape L)) (branch : Branch) (s : Summary) : Type 0 where
  pub first_fits : Fits branch.first s.first
  pub last_fits : Fits branch.first s.last
  pub first : sum branch.first s.first ≡ first_coordinate (branch_rows (rows_table nodes) branch)
  pub last : sum branch.first s.last ≡ last_coordinate (branch_rows (rows_table nodes) branch)
  pub some : branch_rows (rows_table nodes) branch ≢ []
  pub ordered : InOrder (branch_rows (rows_table nodes) branch)

pub ends-told : {L : Type 0} (w : Widths L) → WidthsStay w → (nodes : List (Shape L)) → AreWellFormed w nodes → (branch : Branch) (s : Summary) → s ≡ kept (summary_of w nodes branch.node.0) → IsWellFormedPart w nodes branch → EndsTold nodes branch s
ends-told w stay nodes well_formed branch s is part =
    let room = room-if_part w stay nodes well_formed branch part in
    let told = part-told w stay nodes well_formed branch part in
    let ta = All-head IsTumbler branch.first _ part.first_origins in
    let tb = All-head IsTumbler branch.second _ part.second_origins in
    let there = moves-there w stay nodes well_formed branch.node.0 branch.first branch.second s is part.branch.below ta tb room.first room.second in
    record {
      first_fits = there.first;
      last_fits = there.last;
      first = ap (λ (x : Summary). sum branch.first x.first) is ∙ told.first;
      last = ap (λ (x : Summary). sum branch.first x.last) is ∙ told.last;
      some = told.some;
      ordered = told.ordered;
    }

-- where a branch's origin does not come before a coordinate, its first row does not either
moved-past : {L : Type 0} (w : Widths L) (a b at : List ℕ) (rows : List (Row L)) → rows ≢ [] → All (IsWellFormedRow w) rows → comes_before a at ≡ false → comes_before (first_coordinate (map (moved a b) rows)) at ≡ false
moved-past w a b at [] some well_formed e = absurd (some refl)
moved-past w a b at (row ∷ rows) some well_formed e =
    false_if_up_to (sum a row.first) at (upto_upto at a (sum a row.first) (up_to_if_false a at e) (sum-upto a row.first (All-head (IsWellFormedRow w) row rows well_formed).first_coordinate.ends))

pub origin-past : {L : Type 0} (w : Widths L) (nodes : List (Shape L)) → AreWellFormed w nodes → (branch : Branch) (at : List ℕ) → IsWellFormedPart w nodes branch → comes_before branch.first at ≡ false → comes_before (first_coordinate (branch_rows (rows_table nodes) branch)) at ≡ false
origin-past w nodes well_formed branch at part e =
    moved-past w branch.first branch.second at (rows_of nodes branch.node.0) part.branch.filled (rows-well_formed w nodes branch.node.0 well_formed part.branch.below) e

pub part-some : {L : Type 0} (w : Widths L) (nodes : List (Shape L)) (branch : Branch) → IsWellFormedPart w nodes branch → branch_rows (rows_table nodes) branch ≢ []
part-some w nodes branch part e = part.branch.filled (unmapped (moved branch.first branch.second) (rows_of nodes branch.node.0) e)
  where
    unmapped : {A B : Type 0} (f : A → B) (xs : List A) → map f xs ≡ [] → xs ≡ []
    unmapped f [] e = refl
    unmapped f (x ∷ xs) e = absurd cc

-- ---- rows in order beside a coordinate

-- where the last one comes before a coordinate, all do
pub all_before : {L : Type 0} (at : List ℕ) (rows : List (Row L)) → InOrder rows → comes_before (last_coordinate rows) at ≡ true → All (λ row. comes_before row.first at ≡ true) rows
all_before at [] h e = All-nil (λ row. comes_before row.first at ≡ true)
all_before at (row ∷ []) h e = All-cons (λ r. comes_before r.first at ≡ true) row [] e (All-nil (λ r. comes_before r.first at ≡ true))
all_before at (row ∷ next ∷ rows) h e =
    let last = last_coordinate (next ∷ rows) in
    All-cons (λ r. comes_before r.first at ≡ true) row (next ∷ rows)
    (true_if_before row.first at (upto_before row.first last at (up_to_last row (next ∷ rows) h) (before_if_true last at e)))
    (all_before at (next ∷ rows) h.1 e)

-- where the first one is at or past a coordinate, all are
pub all_past : {L : Type 0} (at : List ℕ) (rows : List (Row L)) → InOrder rows → comes_before (first_coordinate rows) at ≡ false → All (λ row. comes_before row.first at ≡ false) rows
all_past at rows h e =
    All-weaker (λ r. IsUpTo at r.first) (λ r. comes_before r.first at ≡ false) (λ r le. false_if_up_to r.first at le) rows
    (past_first at rows h (λ _. up_to_if_false (first_coordinate rows) at e))

within_both : {L : Type 0} (from to : List ℕ) (row : Row L) → comes_before row.first from ≡ false → comes_before row.first to ≡ true → is_within from to row ≡ true
within_both from to row e f = rw (e, f) refl

both : {L : Type 0} (from to : List ℕ) (rows : List (Row L)) → All (λ row. comes_before row.first from ≡ false) rows → All (λ row. comes_before row.first to ≡ true) rows → All (λ row. is_within from to row ≡ true) rows
both from to [] h k = All-nil (λ row. is_within from to row ≡ true)
both from to (row ∷ rows) h k =
    let P : Row _ → Type 0 = λ r. comes_before r.first from ≡ false in
    let Q : Row _ → Type 0 = λ r. comes_before r.first to ≡ true in
    All-cons (λ r. is_within from to r ≡ true) row rows (within_both from to row (All-head P row rows h) (All-head Q row rows k))
    (both from to rows (All-tail P row rows h) (All-tail Q row rows k))

pub all_within : {L : Type 0} (from to : List ℕ) (rows : List (Row L)) → InOrder rows → comes_before (first_coordinate rows) from ≡ false → comes_before (last_coordinate rows) to ≡ true → All (λ row. is_within from to row ≡ true) rows
all_within from to rows h e f = both from to rows (all_past from rows h e) (all_before to rows h f)

-- ---- all rows move as one

moved_past : {L : Type 0} (to onto a b : List ℕ) (row : Row L) → IsUpTo to a → EndsWell row.first → moved (sum onto (difference a to)) b row ≡ shift_row to onto (moved a b row)
moved_past to onto a b row le e =
    let stays : comes_before (sum a row.first) to ≡ false = false_if_up_to (sum a row.first) to (upto_upto to a (sum a row.first) le (sum-upto a row.first e)) in
    let coordinate : sum (sum onto (difference a to)) row.first ≡ sum onto (difference (sum a row.first) to) = sums_associate onto (difference a to) row.first ∙ ap (sum onto) (sym (difference-sum to a row.first le e)) in
    rw (stays, coordinate) refl

all_moved_past : {L : Type 0} (to onto a b : List ℕ) (rows : List (Row L)) → IsUpTo to a → All (λ row. EndsWell row.first) rows → map (moved (sum onto (difference a to)) b) rows ≡ shifted to onto (map (moved a b) rows)
all_moved_past to onto a b [] le e = refl
all_moved_past to onto a b (row ∷ rows) le e =
    let P : Row _ → Type 0 = λ r. EndsWell r.first in
    ap (λ (r : Row _). r ∷ map (moved (sum onto (difference a to)) b) rows) (moved_past to onto a b row le (All-head P row rows e))
    ∙ ap (λ (rs : List (Row _)). shift_row to onto (moved a b row) ∷ rs) (all_moved_past to onto a b rows le (All-tail P row rows e))

covered_origins : (a last : List ℕ) (origins : List (List ℕ)) → IsTumbler a → IsTumbler (sum a last) → IsCovered a last → All IsTumbler origins → AreUpTo last origins → All IsTumbler (map (sum a) origins)
covered_origins a last [] t u covered h le = All-nil IsTumbler
covered_origins a last (o ∷ origins) t u covered h le =
    let own = All-head IsTumbler o origins h in
    let fits = covered_fits a o last own u (All-head (λ p. IsUpTo p last) o origins le) covered in
    All-cons IsTumbler (sum a o) (map (sum a) origins) (sum-is_tumbler a o t own fits)
    (covered_origins a last origins t u covered (All-tail IsTumbler o origins h) (All-tail (λ p. IsUpTo p last) o origins le))

filled_moved : {L : Type 0} (a b : List ℕ) (rows : List (Row L)) → rows ≢ [] → map (moved a b) rows ≢ []
filled_moved a b [] n q = n refl
filled_moved a b (row ∷ rows) n q = cc

-- A branch whose coordinate is at or past `to`, put where it comes to stand. Its rows are well formed there, and no
-- origin below it comes after the last of them.
pub whole-moved : {L : Type 0} (w : Widths L) → WidthsStay w → (nodes : List (Shape L)) → AreWellFormed w nodes → (branch : Branch) (first to onto : List ℕ) (s : Summary) → s ≡ kept (summary_of w nodes branch.node.0) → IsWellFormedPart w nodes branch
    → IsUpTo to branch.first → first ≡ sum onto (difference branch.first to) → IsTumbler first → IsCovered first s.last → All (IsWellFormedRow w) (shifted to onto (branch_rows (rows_table nodes) branch))
    → BranchHasRows w nodes (height_of w nodes branch.node.0) (shifted to onto (branch_rows (rows_table nodes) branch)) (record branch { first = first })
whole-moved w stay nodes well_formed branch first to onto s is part le value t covered there =
    let k = branch.node.0 in
    let below = part.branch.below in
    let rows = rows_of nodes k in
    let own = rows-well_formed w nodes k well_formed below in
    let o1 = get_or (origins_table (first_axis w) nodes) k [] in
    let rows_are : map (moved first branch.second) rows ≡ shifted to onto (branch_rows (rows_table nodes) branch) =
    ap (λ (x : List ℕ). map (moved x branch.second) rows) value
    ∙ all_moved_past to onto branch.first branch.second rows le (All-weaker (IsWellFormedRow w) (λ r. EndsWell r.first) (λ r h. h.first_coordinate.ends) rows own) in
    let well_formed_there = subst (All (IsWellFormedRow w)) (sym rows_are) there in
    let last = last_coordinate rows in
    let end : IsTumbler (sum first last) =
    subst IsTumbler (last_coordinate-moved first branch.second rows part.branch.filled) (last-well_formed w (map (moved first branch.second) rows) (filled_moved first branch.second rows part.branch.filled) well_formed_there) in
    let covers : IsCovered first last = subst (IsCovered first) (ap (λ (x : Summary). x.last) is ∙ (tells w stay nodes well_formed k below).last) covered in
    record {
      part = record {
        branch = record { below = below; filled = part.branch.filled; first_extent = part.branch.first_extent; second_extent = part.branch.second_extent };
        first_origins = All-cons IsTumbler first (map (sum first) o1) t
            (covered_origins first last o1 t end covers (origins-well_formed w nodes k well_formed below).0 (origins-up_to w nodes well_formed k below));
        second_origins = part.second_origins;
        rows = well_formed_there;
      };
      rows_are = rows_are;
      level = refl;
    }
