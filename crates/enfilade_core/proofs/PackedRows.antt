-- Rows that are seen from an origin just before them are well formed, and stand where they stood.
use Rattle.std.proofs.Common.{◌≡◌, ◌≢◌, ℕ, Bool, IsTrue, List, [], ◌∷◌, length, map, fold, refl, ap, ◌∙◌, sym, subst}
use Rattle.std.specs.List.{All}
use Rattle.std.proofs.lemmas.List.Elements.{All-head, All-tail, All-nil, All-cons, All-weaker}
use Rattle.tumbler.specs.Places.{EndsWell, IsTumbler, IsBefore, IsUpTo, sum, difference}
use Rattle.tumbler.specs.Laws.{StandsBefore}
use Rattle.tumbler.proofs.Alls.{All-one}
use Rattle.tumbler.proofs.Sums.{sums_associate}
use Rattle.tumbler.proofs.Tumblers.{EndsWell-sum, difference-is_tumbler}
use Rattle.tumbler.proofs.Differences.{sum-difference}
use Rattle.tumbler.proofs.SumOrder.{up_to_if_sums, difference-filled, length-difference_before, tumbler_if_sum}
use Rattle.enfilade_core.specs.declared.tree.Row.{Row}
use Rattle.enfilade_core.specs.declared.tree.Branch.{Branch}
use Rattle.enfilade_core.specs.declared.summary.Summary.{Summary}
use Rattle.enfilade_core.specs.Rows.{Shape, Rows, moved}
use Rattle.enfilade_core.specs.Axes.{Widths, WidthsStay, StandsOff, InOrder, IsWellFormedRow, IsWellFormedRows}
use Rattle.enfilade_core.specs.Summary.{row_summary, summary_joined, no_summary}
use Rattle.enfilade_core.specs.Exchange.{IsPacked}
use Rattle.enfilade_core.specs.Packing.{back, MayStandAt, IsPlaced}
use Rattle.enfilade_core.proofs.Tells.{stands_off}

-- ---- one row

there : {L : Type 0} (a b : List ℕ) (row : Row L) → IsUpTo a row.first → IsUpTo b row.second → moved a b (back a b row) ≡ row
there a b row le also =
    ap (λ (x : List ℕ). record row { first = x; second = sum b (difference row.second b) }) (sum-difference a row.first le)
    ∙ ap (λ (x : List ℕ). record row { first = row.first; second = x }) (sum-difference b row.second also)

end_back : (a coordinate width more : List ℕ) → IsUpTo a coordinate → EndsWell (difference coordinate a) → IsTumbler width → more ≡ width → IsTumbler (sum coordinate width) → IsTumbler (sum (difference coordinate a) more)
end_back a coordinate width more le e t same end =
    let d = difference coordinate a in
    rw same (tumbler_if_sum a (sum d width) (EndsWell-sum d width e t.ends) (subst IsTumbler (ap (λ (x : List ℕ). sum x width) (sym (sum-difference a coordinate le)) ∙ sums_associate a d width) end))

long_back : (a coordinate width more : List ℕ) → IsBefore a coordinate → more ≡ width → (width ≢ []) × (length width ≡ length coordinate) → (more ≢ []) × (length more ≡ length (difference coordinate a))
long_back a coordinate width more lt same h = rw same (h.0, h.1 ∙ sym (length-difference_before coordinate a lt))

-- a coordinate may be seen from an origin: it is at or past it, and past it where the axis is strict
pub record IsSeen (strict : Bool) (origin coordinate : List ℕ) : Type 0 where
  pub up_to : IsUpTo origin coordinate
  pub before : IsTrue strict → IsBefore origin coordinate

pub record RowIsSeen {L : Type 0} (w : Widths L) (a b : List ℕ) (row : Row L) : Type 0 where
  pub first : IsSeen w.first_strict a row.first
  pub second : IsSeen w.second_strict b row.second

pub seen-if_before : {L : Type 0} (w : Widths L) (a b : List ℕ) (row : Row L) → StandsBefore a row.first → StandsBefore b row.second → IsWellFormedRow w row → RowIsSeen w a b row
seen-if_before w a b row s t well_formed =
    let far = stands_off w row well_formed in
    record {
      first = record { up_to = s.up_to; before = λ strict. s.before (far.first strict) };
      second = record { up_to = t.up_to; before = λ strict. t.before (far.second strict) };
    }

row_back-well_formed : {L : Type 0} (w : Widths L) → WidthsStay w → (a b : List ℕ) (row : Row L) → IsTumbler a → IsTumbler b → RowIsSeen w a b row → IsWellFormedRow w row → IsWellFormedRow w (back a b row)
row_back-well_formed {L} w stay a b row ta tb seen well_formed =
    let s = seen.first in
    let t = seen.second in
    let first = difference-is_tumbler row.first a well_formed.first_coordinate ta s.up_to in
    let second = difference-is_tumbler row.second b well_formed.second_coordinate tb t.up_to in
    let is = there a b row s.up_to t.up_to in
    let off : StandsOff w (back a b row) = record {
      first = λ strict. difference-filled row.first a (s.before strict);
      second = λ strict. difference-filled row.second b (t.before strict);
    } in
    let stays = stay a b (back a b row) first.ends second.ends off in
    let w1 : w.first (back a b row) ≡ w.first row = sym stays.0 ∙ ap w.first is in
    let w2 : w.second (back a b row) ≡ w.second row = sym stays.1 ∙ ap w.second is in
    record {
      first_coordinate = first;
      second_coordinate = second;
      first_width = subst IsTumbler (sym w1) well_formed.first_width;
      second_width = subst IsTumbler (sym w2) well_formed.second_width;
      first_end = end_back a row.first (w.first row) (w.first (back a b row)) s.up_to first.ends well_formed.first_width w1 well_formed.first_end;
      second_end = end_back b row.second (w.second row) (w.second (back a b row)) t.up_to second.ends well_formed.second_width w2 well_formed.second_end;
      proper = (
        λ strict. long_back a row.first (w.first row) (w.first (back a b row)) (s.before strict) w1 (well_formed.proper.0 strict),
        λ strict. long_back b row.second (w.second row) (w.second (back a b row)) (t.before strict) w2 (well_formed.proper.1 strict),
      );
    }

-- ---- all rows

pub seen-if_all_before : {L : Type 0} (w : Widths L) (a b : List ℕ) (rows : List (Row L)) → All (λ row. StandsBefore a row.first) rows → All (λ row. StandsBefore b row.second) rows → All (IsWellFormedRow w) rows → All (RowIsSeen w a b) rows
seen-if_all_before w a b [] s t well_formed = All-nil (RowIsSeen w a b)
seen-if_all_before {L} w a b (row ∷ rows) s t well_formed =
    let P : Row L → Type 0 = λ r. StandsBefore a r.first in
    let Q : Row L → Type 0 = λ r. StandsBefore b r.second in
    All-cons (RowIsSeen w a b) row rows (seen-if_before w a b row (All-head P row rows s) (All-head Q row rows t) (All-head (IsWellFormedRow w) row rows well_formed))
    (seen-if_all_before w a b rows (All-tail P row rows s) (All-tail Q row rows t) (All-tail (IsWellFormedRow w) row rows well_formed))

rows_back-well_formed : {L : Type 0} (w : Widths L) → WidthsStay w → (a b : List ℕ) (rows : List (Row L)) → IsTumbler a → IsTumbler b → All (RowIsSeen w a b) rows → All (IsWellFormedRow w) rows → All (IsWellFormedRow w) (map (back a b) rows)
rows_back-well_formed w stay a b [] ta tb seen well_formed = All-nil (IsWellFormedRow w)
rows_back-well_formed w stay a b (row ∷ rows) ta tb seen well_formed =
    All-cons (IsWellFormedRow w) (back a b row) (map (back a b) rows)
    (row_back-well_formed w stay a b row ta tb (All-head (RowIsSeen w a b) row rows seen) (All-head (IsWellFormedRow w) row rows well_formed))
    (rows_back-well_formed w stay a b rows ta tb (All-tail (RowIsSeen w a b) row rows seen) (All-tail (IsWellFormedRow w) row rows well_formed))

pub rows_there : {L : Type 0} (w : Widths L) (a b : List ℕ) (rows : List (Row L)) → All (RowIsSeen w a b) rows → map (moved a b) (map (back a b) rows) ≡ rows
rows_there w a b [] seen = refl
rows_there {L} w a b (row ∷ rows) seen =
    let here = All-head (RowIsSeen w a b) row rows seen in
    ap (λ (r : Row L). r ∷ map (moved a b) (map (back a b) rows)) (there a b row here.first.up_to here.second.up_to)
    ∙ ap (λ (rs : List (Row L)). row ∷ rs) (rows_there w a b rows (All-tail (RowIsSeen w a b) row rows seen))

-- rows are in order where they are once all are moved
earlier_unmoved : {L : Type 0} (a b coordinate : List ℕ) (rows : List (Row L)) → EndsWell coordinate → All (λ r. IsUpTo (sum a coordinate) r.first) (map (moved a b) rows) → All (λ r. IsUpTo coordinate r.first) rows
earlier_unmoved a b coordinate [] e h = All-nil (λ r. IsUpTo coordinate r.first)
earlier_unmoved a b coordinate (next ∷ rows) e h =
    let P : Row _ → Type 0 = λ r. IsUpTo (sum a coordinate) r.first in
    All-cons (λ r. IsUpTo coordinate r.first) next rows (up_to_if_sums a coordinate next.first e (All-head P (moved a b next) (map (moved a b) rows) h))
    (earlier_unmoved a b coordinate rows e (All-tail P (moved a b next) (map (moved a b) rows) h))

pub InOrder-unmoved : {L : Type 0} (a b : List ℕ) (rows : List (Row L)) → All (λ r. EndsWell r.first) rows → InOrder (map (moved a b) rows) → InOrder rows
InOrder-unmoved a b [] e h = tt
InOrder-unmoved a b (row ∷ rows) e h =
    let P : Row _ → Type 0 = λ r. EndsWell r.first in
    (earlier_unmoved a b row.first rows (All-head P row rows e) h.0, InOrder-unmoved a b rows (All-tail P row rows e) h.1)

pub ends_well : {L : Type 0} (w : Widths L) (rows : List (Row L)) → All (IsWellFormedRow w) rows → All (λ r. EndsWell r.first) rows
ends_well w rows well_formed = All-weaker (IsWellFormedRow w) (λ r. EndsWell r.first) (λ r h. h.first_coordinate.ends) rows well_formed

pub filled_back : {L : Type 0} (a b : List ℕ) (rows more : List (Row L)) → map (moved a b) rows ≡ more → more ≢ [] → rows ≢ []
filled_back a b rows more is some q = some (sym is ∙ ap (map (moved a b)) q)

pub map_some : {A B : Type 0} (f : A → B) (xs : List A) → xs ≢ [] → map f xs ≢ []
map_some f [] n q = n refl
map_some f (x ∷ xs) n q = cc

-- ---- a bottom node

rows_stand : {L : Type 0} (w : Widths L) → WidthsStay w → (nodes : List (Shape L)) (a b : List ℕ) (rows : List (Row L)) → IsTumbler a → IsTumbler b → rows ≢ [] → IsWellFormedRows w rows → All (RowIsSeen w a b) rows → MayStandAt w nodes (Rows (map (back a b) rows)) a b
rows_stand w stay nodes a b rows ta tb some well_formed seen =
    let each = rows_back-well_formed w stay a b rows ta tb seen well_formed.each in
    let is = rows_there w a b rows seen in
    record {
      well_formed = record {
        branches = tt;
        first_origins = All-nil IsTumbler;
        second_origins = All-nil IsTumbler;
        rows = each;
        ordered = InOrder-unmoved a b (map (back a b) rows) (ends_well w (map (back a b) rows) each) (subst InOrder (sym is) well_formed.ordered);
      };
      filled = filled_back a b (map (back a b) rows) rows is some;
      first_origins = All-one IsTumbler a ta;
      second_origins = All-one IsTumbler b tb;
      rows = subst (All (IsWellFormedRow w)) (sym is) well_formed.each;
    }

-- the list that was made has these rows
pub rows-may_stand : {L : Type 0} (w : Widths L) → WidthsStay w → (nodes : List (Shape L)) (a b : List ℕ) (rows made : List (Row L)) → IsTumbler a → IsTumbler b → rows ≢ [] → IsWellFormedRows w rows → All (RowIsSeen w a b) rows → made ≡ map (back a b) rows → MayStandAt w nodes (Rows made) a b
rows-may_stand w stay nodes a b rows made ta tb some well_formed seen is = rw is (rows_stand w stay nodes a b rows ta tb some well_formed seen)

-- an origin that stands before rows is a tumbler
pub tumbler-before : {L : Type 0} (coordinate : Row L → List ℕ) (a : List ℕ) (rows : List (Row L)) → rows ≢ [] → All (λ row. StandsBefore a (coordinate row)) rows → IsTumbler a
tumbler-before coordinate a [] some s = absurd (some refl)
tumbler-before coordinate a (row ∷ rows) some s = (All-head (λ r. StandsBefore a (coordinate r)) row rows s).is_tumbler

rows_level : {L : Type 0} (w : Widths L) (rows : List (Row L)) (s : Summary) → s.height ≡ 0 → (fold summary_joined s (map (row_summary w) rows)).height ≡ 0
rows_level w [] s h = h
rows_level w (row ∷ rows) s h = rows_level w rows (summary_joined s (row_summary w row)) refl

pub rows-packed : {L : Type 0} (w : Widths L) (old new : List (Shape L)) (a b : List ℕ) (rows made : List (Row L)) (branch : Branch) → All (RowIsSeen w a b) rows → made ≡ map (back a b) rows → IsPlaced w old new (Rows made) a b branch → IsPacked w old new (Rows rows) branch
rows-packed w old new a b rows made branch seen is placed = record {
  part = placed.part;
  rows = placed.rows ∙ ap (map (moved a b)) is ∙ rows_there w a b rows seen;
  level = placed.level ∙ rows_level w made no_summary refl ∙ sym (rows_level w rows no_summary refl);
}
