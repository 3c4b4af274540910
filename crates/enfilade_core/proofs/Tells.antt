-- What a summary tells of rows, and how it tells it of their parts.
use Rattle.std.proofs.Common.{◌≡◌, ◌≢◌, ℕ, List, [], ◌∷◌, ◌++◌, length, map, cond, eqb, refl, arith, ap, ◌∙◌, sym}
use Rattle.std.specs.List.{All}
use Rattle.std.proofs.lemmas.List.{length-append, length-map}
use Rattle.std.proofs.lemmas.List.Elements.{All-head, All-tail, All-weaker}
use Rattle.std.proofs.lemmas.Bool.{cond-false, ne_eqb}
use Rattle.tumbler.specs.Places.{EndsWell, sum}
use Rattle.tumbler.proofs.Sums.{sums_associate}
use Rattle.enfilade_core.specs.declared.tree.Row.{Row}
use Rattle.enfilade_core.specs.declared.summary.Summary.{Summary}
use Rattle.enfilade_core.specs.Rows.{moved}
use Rattle.enfilade_core.specs.Axes.{Widths, Axis, first_axis, second_axis, StandsOff, WidthsStay, end_on, later, greatest_end, IsWellFormedRow}
use Rattle.enfilade_core.specs.Summary.{no_summary, row_summary, summary_moved, summary_joined}
pub use Rattle.enfilade_core.specs.Following.{first_coordinate, last_coordinate}
use Rattle.enfilade_core.proofs.Later.{later-none, none-later, later_assoc, later-sums, EndsWell-later}

pub record Tells {L : Type 0} (w : Widths L) (rows : List (Row L)) (s : Summary) : Type 0 where
  pub leaves : s.leaves ≡ length rows
  pub first : s.first ≡ first_coordinate rows
  pub last : s.last ≡ last_coordinate rows
  pub first_extent : s.first_extent ≡ greatest_end (first_axis w) rows
  pub second_extent : s.second_extent ≡ greatest_end (second_axis w) rows

pub tells-none : {L : Type 0} (w : Widths L) → Tells w [] no_summary
tells-none w = record { leaves = refl; first = refl; last = refl; first_extent = refl; second_extent = refl }

-- ---- one row

pub tells-row : {L : Type 0} (w : Widths L) (row : Row L) → Tells w (row ∷ []) (row_summary w row)
tells-row w row = record {
  leaves = refl;
  first = refl;
  last = refl;
  first_extent = sym (later-none (end_on (first_axis w) row));
  second_extent = sym (later-none (end_on (second_axis w) row));
}

-- ---- two neighbours

pub greatest_end-append : {L : Type 0} (axis : Axis L) (rows more : List (Row L)) → greatest_end axis (rows ++ more) ≡ later (greatest_end axis rows) (greatest_end axis more)
greatest_end-append axis [] more = sym (none-later (greatest_end axis more))
greatest_end-append axis (row ∷ rows) more =
    ap (later (end_on axis row)) (greatest_end-append axis rows more) ∙ sym (later_assoc (end_on axis row) (greatest_end axis rows) (greatest_end axis more))

extents-joined : {L : Type 0} (axis : Axis L) (rows more : List (Row L)) (a b : List ℕ) → a ≡ greatest_end axis rows → b ≡ greatest_end axis more → later a b ≡ greatest_end axis (rows ++ more)
extents-joined axis rows more a b h k = ap (λ (x : List ℕ). later x b) h ∙ ap (later (greatest_end axis rows)) k ∙ sym (greatest_end-append axis rows more)

pub last_coordinate-append : {L : Type 0} (rows more : List (Row L)) → more ≢ [] → last_coordinate (rows ++ more) ≡ last_coordinate more
last_coordinate-append [] more n = refl
last_coordinate-append (row ∷ []) [] n = absurd (n refl)
last_coordinate-append (row ∷ []) (next ∷ more) n = refl
last_coordinate-append (row ∷ next ∷ rows) more n = last_coordinate-append (next ∷ rows) more n

first_joined : {L : Type 0} (rows more : List (Row L)) (n : ℕ) (a b : List ℕ) → n ≡ length rows → a ≡ first_coordinate rows → b ≡ first_coordinate more → cond (eqb n 0) b a ≡ first_coordinate (rows ++ more)
first_joined [] more n a b e f g = rw e g
first_joined (row ∷ rows) more n a b e f g = cond-false (eqb n 0) b a (ne_eqb n 0 (λ z. absurd (omega arith))) ∙ f

pub tells-joined : {L : Type 0} (w : Widths L) (rows more : List (Row L)) (a b : Summary) → more ≢ [] → Tells w rows a → Tells w more b → Tells w (rows ++ more) (summary_joined a b)
tells-joined w rows more a b some h k = record {
  leaves = omega (arith, h.leaves, k.leaves, length-append rows more);
  first = first_joined rows more a.leaves a.first b.first h.leaves h.first k.first;
  last = k.last ∙ sym (last_coordinate-append rows more some);
  first_extent = extents-joined (first_axis w) rows more a.first_extent b.first_extent h.first_extent k.first_extent;
  second_extent = extents-joined (second_axis w) rows more a.second_extent b.second_extent h.second_extent k.second_extent;
}

-- ---- all moved

-- what a move needs of a row: that its places and ends end well, and that its widths stay
pub record Moves {L : Type 0} (w : Widths L) (row : Row L) : Type 0 where
  pub first_end : EndsWell (end_on (first_axis w) row)
  pub second_end : EndsWell (end_on (second_axis w) row)
  pub first_stays : (a b : List ℕ) → w.first (moved a b row) ≡ w.first row
  pub second_stays : (a b : List ℕ) → w.second (moved a b row) ≡ w.second row

pub not_zero : (coordinate width : List ℕ) → (width ≢ []) × (length width ≡ length coordinate) → coordinate ≢ []
not_zero [] [] h q = h.0 refl
not_zero [] (x ∷ width) h q = absurd (omega (arith, h.1))
not_zero (y ∷ coordinate) width h q = cc

pub stands_off : {L : Type 0} (w : Widths L) (row : Row L) → IsWellFormedRow w row → StandsOff w row
stands_off w row well_formed = record {
  first = λ strict. not_zero row.first (w.first row) (well_formed.proper.0 strict);
  second = λ strict. not_zero row.second (w.second row) (well_formed.proper.1 strict);
}

pub moves : {L : Type 0} (w : Widths L) → WidthsStay w → (row : Row L) → IsWellFormedRow w row → Moves w row
moves w stay row well_formed = record {
  first_end = well_formed.first_end.ends;
  second_end = well_formed.second_end.ends;
  first_stays = λ a b. (stay a b row well_formed.first_coordinate.ends well_formed.second_coordinate.ends (stands_off w row well_formed)).0;
  second_stays = λ a b. (stay a b row well_formed.first_coordinate.ends well_formed.second_coordinate.ends (stands_off w row well_formed)).1;
}

-- one axis, and the displacement along it
pub record MovesOn {L : Type 0} (axis : Axis L) (d : List ℕ) (move : Row L → Row L) (row : Row L) : Type 0 where
  pub ends : EndsWell (end_on axis row)
  pub coordinate : axis.coordinate (move row) ≡ sum d (axis.coordinate row)
  pub width : axis.width (move row) ≡ axis.width row

pub moves_first : {L : Type 0} (w : Widths L) (a b : List ℕ) (row : Row L) → Moves w row → MovesOn (first_axis w) a (moved a b) row
moves_first w a b row m = record { ends = m.first_end; coordinate = refl; width = m.first_stays a b }

pub moves_second : {L : Type 0} (w : Widths L) (a b : List ℕ) (row : Row L) → Moves w row → MovesOn (second_axis w) b (moved a b) row
moves_second w a b row m = record { ends = m.second_end; coordinate = refl; width = m.second_stays a b }

pub end-moved : {L : Type 0} (axis : Axis L) (d : List ℕ) (move : Row L → Row L) (row : Row L) → MovesOn axis d move row → end_on axis (move row) ≡ sum d (end_on axis row)
end-moved axis d move row m = rw (m.coordinate, m.width) (sums_associate d (axis.coordinate row) (axis.width row))

EndsWell-greatest_end : {L : Type 0} (axis : Axis L) (d : List ℕ) (move : Row L → Row L) (rows : List (Row L)) → All (MovesOn axis d move) rows → EndsWell (greatest_end axis rows)
EndsWell-greatest_end axis d move [] h = λ _. refl
EndsWell-greatest_end axis d move (row ∷ rows) h =
    let P = MovesOn axis d move in
    EndsWell-later (end_on axis row) (greatest_end axis rows) ((All-head P row rows h).ends) (EndsWell-greatest_end axis d move rows (All-tail P row rows h))

pub greatest_end-moved : {L : Type 0} (axis : Axis L) (d : List ℕ) (move : Row L → Row L) (rows : List (Row L)) → rows ≢ [] → All (MovesOn axis d move) rows → greatest_end axis (map move rows) ≡ sum d (greatest_end axis rows)
greatest_end-moved axis d move [] n h = absurd (n refl)
greatest_end-moved axis d move (row ∷ []) n h =
    let P = MovesOn axis d move in
    later-none (end_on axis (move row)) ∙ end-moved axis d move row (All-head P row [] h) ∙ ap (sum d) (sym (later-none (end_on axis row)))
greatest_end-moved axis d move (row ∷ next ∷ rows) n h =
    let P = MovesOn axis d move in
    let rest = All-tail P row (next ∷ rows) h in
    ap (λ (x : List ℕ). later x (greatest_end axis (map move (next ∷ rows)))) (end-moved axis d move row (All-head P row (next ∷ rows) h))
    ∙ ap (later (sum d (end_on axis row))) (greatest_end-moved axis d move (next ∷ rows) (λ q. cc) rest)
    ∙ later-sums d (end_on axis row) (greatest_end axis (next ∷ rows)) ((All-head P row (next ∷ rows) h).ends) (EndsWell-greatest_end axis d move (next ∷ rows) rest)

pub all_move_first : {L : Type 0} (w : Widths L) (a b : List ℕ) (rows : List (Row L)) → All (Moves w) rows → All (MovesOn (first_axis w) a (moved a b)) rows
all_move_first w a b rows m = All-weaker (Moves w) (MovesOn (first_axis w) a (moved a b)) (moves_first w a b) rows m

pub all_move_second : {L : Type 0} (w : Widths L) (a b : List ℕ) (rows : List (Row L)) → All (Moves w) rows → All (MovesOn (second_axis w) b (moved a b)) rows
all_move_second w a b rows m = All-weaker (Moves w) (MovesOn (second_axis w) b (moved a b)) (moves_second w a b) rows m

first_coordinate-moved : {L : Type 0} (a b : List ℕ) (rows : List (Row L)) → rows ≢ [] → first_coordinate (map (moved a b) rows) ≡ sum a (first_coordinate rows)
first_coordinate-moved a b [] n = absurd (n refl)
first_coordinate-moved a b (row ∷ rows) n = refl

pub last_coordinate-moved : {L : Type 0} (a b : List ℕ) (rows : List (Row L)) → rows ≢ [] → last_coordinate (map (moved a b) rows) ≡ sum a (last_coordinate rows)
last_coordinate-moved a b [] n = absurd (n refl)
last_coordinate-moved a b (row ∷ []) n = refl
last_coordinate-moved a b (row ∷ next ∷ rows) n = last_coordinate-moved a b (next ∷ rows) (λ q. cc)

pub all_move : {L : Type 0} (w : Widths L) → WidthsStay w → (rows : List (Row L)) → All (IsWellFormedRow w) rows → All (Moves w) rows
all_move w stay rows well_formed = All-weaker (IsWellFormedRow w) (Moves w) (moves w stay) rows well_formed

pub tells-moved : {L : Type 0} (w : Widths L) (a b : List ℕ) (rows : List (Row L)) (s : Summary) → rows ≢ [] → All (Moves w) rows → Tells w rows s → Tells w (map (moved a b) rows) (summary_moved a b s)
tells-moved w a b rows s n m h = record {
  leaves = h.leaves ∙ sym (length-map rows (moved a b));
  first = ap (sum a) h.first ∙ sym (first_coordinate-moved a b rows n);
  last = ap (sum a) h.last ∙ sym (last_coordinate-moved a b rows n);
  first_extent = ap (sum a) h.first_extent ∙ sym (greatest_end-moved (first_axis w) a (moved a b) rows n (all_move_first w a b rows m));
  second_extent = ap (sum b) h.second_extent ∙ sym (greatest_end-moved (second_axis w) b (moved a b) rows n (all_move_second w a b rows m));
}
