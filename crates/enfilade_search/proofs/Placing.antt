-- A row of a bottom node, from a base.
use Rattle.std.proofs.Common.{◌≡◌, ℕ, ◌+◌, ◌<◌, Bool, true, false, cond, List, [], ◌∷◌, ◌++◌, length, get_or, take, map, refl, ap, ◌∙◌, sym, subst, append-nil, append_assoc}
use Rattle.std.specs.List.{All, filter}
use Rattle.std.proofs.lemmas.List.{map-append, take_more}
use Rattle.std.proofs.lemmas.List.Elements.{filter-append}
use Rattle.tumbler.specs.Places.{Fits, IsTumbler, sum}
use Rattle.tumbler.proofs.SumOrder.{fits_if_tumbler}
use Rattle.enfilade_core.specs.declared.tree.Row.{Row}
use Rattle.enfilade_core.specs.Rows.{moved}
use Rattle.enfilade_core.specs.Axes.{Widths, WidthsStay, IsWellFormedRow}
use Rattle.enfilade_core.specs.Plain.{plain_row}
use Rattle.enfilade_core.proofs.Tells.{Moves, moves}
use Rattle.enfilade_core.proofs.GoneThrough.{item-well_formed, mapped_at}
use Rattle.enfilade_search.specs.declared.sought.By.{By}
use Rattle.enfilade_search.specs.declared.sought.By.TheVariants.{Place, First, Second}
use Rattle.enfilade_search.specs.declared.sought.Sought.{Sought}
use Rattle.enfilade_search.specs.Meeting.{touches}
use Rattle.enfilade_search.specs.Sought.{side_by, width_by, is_sought}

-- ---- sums

pub first_fits : {L : Type 0} (w : Widths L) (a b : List ℕ) (row : Row L) → IsWellFormedRow w (moved a b row) → Fits a row.first
first_fits w a b row well_formed = fits_if_tumbler a row.first well_formed.first_coordinate

pub second_fits : {L : Type 0} (w : Widths L) (a b : List ℕ) (row : Row L) → IsWellFormedRow w (moved a b row) → Fits b row.second
second_fits w a b row well_formed = fits_if_tumbler b row.second well_formed.second_coordinate

pub first_end_fits : {L : Type 0} (w : Widths L) → WidthsStay w → (a b coordinate : List ℕ) (row : Row L) → coordinate ≡ sum a row.first → IsWellFormedRow w row → IsWellFormedRow w (moved a b row) → Fits coordinate (w.first row)
first_end_fits w stay a b coordinate row is own well_formed =
    let stays = (moves w stay row own).first_stays a b in
    subst (λ (x : List ℕ). Fits x (w.first row)) (sym is) (fits_if_tumbler (sum a row.first) (w.first row) (subst (λ (x : List ℕ). IsTumbler (sum (sum a row.first) x)) stays well_formed.first_end))

pub second_end_fits : {L : Type 0} (w : Widths L) → WidthsStay w → (a b coordinate : List ℕ) (row : Row L) → coordinate ≡ sum b row.second → IsWellFormedRow w row → IsWellFormedRow w (moved a b row) → Fits coordinate (w.second row)
second_end_fits w stay a b coordinate row is own well_formed =
    let stays = (moves w stay row own).second_stays a b in
    subst (λ (x : List ℕ). Fits x (w.second row)) (sym is) (fits_if_tumbler (sum b row.second) (w.second row) (subst (λ (x : List ℕ). IsTumbler (sum (sum b row.second) x)) stays well_formed.second_end))

-- ---- whether it is sought

width_moved : {L : Type 0} (w : Widths L) (by : By) (a b : List ℕ) (row : Row L) → Moves w row → width_by w by (moved a b row) ≡ width_by w by row
width_moved w Place a b row m = refl
width_moved w First a b row m = m.first_stays a b
width_moved w Second a b row m = m.second_stays a b

pub met_is : {L : Type 0} (w : Widths L) → WidthsStay w → (sought : Sought) (a b first second : List ℕ) (row : Row L) (met : Bool) → IsWellFormedRow w row → first ≡ sum a row.first → second ≡ sum b row.second
    → met ≡ touches sought.from sought.to (side_by sought.by first second) (width_by w sought.by row) → met ≡ is_sought w sought (moved a b row)
met_is w stay sought a b first second row met own f s is =
    is
    ∙ ap (λ (x : List ℕ). touches sought.from sought.to (side_by sought.by x second) (width_by w sought.by row)) f
    ∙ ap (λ (x : List ℕ). touches sought.from sought.to (side_by sought.by (sum a row.first) x) (width_by w sought.by row)) s
    ∙ ap (touches sought.from sought.to (side_by sought.by (sum a row.first) (sum b row.second))) (sym (width_moved w sought.by a b row (moves w stay row own)))

-- ---- what is held then

pub left_out : {X : Type 0} (test : X → Bool) (held : List X) (x : X) (met : Bool) → met ≡ test x → met ≡ false → held ≡ held ++ filter test (x ∷ [])
left_out test held x met is not_met = sym (ap (λ t. held ++ cond t (x ∷ []) []) (sym is ∙ not_met) ∙ append-nil held)

pub taken_in : {L : Type 0} (plain : L → L) (test : Row L → Bool) (old now : List (Row L)) (made row : Row L) (met : Bool) → met ≡ test row → met ≡ true → plain_row plain made ≡ row → now ≡ old ++ made ∷ []
    → map (plain_row plain) now ≡ map (plain_row plain) old ++ filter test (row ∷ [])
taken_in plain test old now made row met is is_met same more =
    ap (map (plain_row plain)) more
    ∙ map-append (plain_row plain) old (made ∷ [])
    ∙ ap (λ (r : Row _). map (plain_row plain) old ++ r ∷ []) same
    ∙ sym (ap (λ t. map (plain_row plain) old ++ cond t (row ∷ []) []) (sym is ∙ is_met))

pub made_is : {L : Type 0} (plain : L → L) (a b first second : List ℕ) (row : Row L) (leaf : L) → first ≡ sum a row.first → second ≡ sum b row.second → plain leaf ≡ plain row.leaf
    → plain_row plain (record { first = first; second = second; leaf = leaf }) ≡ moved a b (plain_row plain row)
made_is {L} plain a b first second row leaf f s l =
    let made : List ℕ → List ℕ → L → Row L = λ x y z. record { first = x; second = y; leaf = z } in
    ap (λ x. made x second (plain leaf)) f ∙ ap (λ y. made (sum a row.first) y (plain leaf)) s ∙ ap (made (sum a row.first) (sum b row.second)) l

-- ---- the rows so far, and one more

pub rows_more : {L : Type 0} (plain : L → L) (test : Row L → Bool) (a b : List ℕ) (rows : List (Row L)) (i : ℕ) (row : Row L) (held so_far now : List (Row L)) → i < length rows → row ≡ get_or rows i row
    → so_far ≡ held ++ filter test (map (moved a b) (map (plain_row plain) (take i rows))) → now ≡ so_far ++ filter test (moved a b (plain_row plain row) ∷ [])
    → now ≡ held ++ filter test (map (moved a b) (map (plain_row plain) (take (i + 1) rows)))
rows_more plain test a b rows i row held so_far now lt at before is =
    let front = take i rows in
    let placed = map (moved a b) (map (plain_row plain) front) in
    let one = moved a b (plain_row plain row) ∷ [] in
    is ∙ ap (λ (r : List (Row _)). r ++ filter test one) before ∙ append_assoc held (filter test placed) (filter test one)
    ∙ ap (λ (r : List (Row _)). held ++ r) (sym (filter-append test placed one))
    ∙ ap (λ (r : List (Row _)). held ++ filter test r) (sym (map-append (moved a b) (map (plain_row plain) front) (plain_row plain row ∷ [])))
    ∙ ap (λ (r : List (Row _)). held ++ filter test (map (moved a b) r)) (sym (map-append (plain_row plain) front (row ∷ [])))
    ∙ ap (λ (r : List (Row _)). held ++ filter test (map (moved a b) (map (plain_row plain) r))) (ap (λ (y : Row _). front ++ y ∷ []) at ∙ sym (take_more rows i row lt))

-- row i, as it stands in its node and from the base
pub record RowAt {L : Type 0} (w : Widths L) (a b : List ℕ) (row : Row L) : Type 0 where
  pub own : IsWellFormedRow w row
  pub there : IsWellFormedRow w (moved a b row)

pub row_at : {L : Type 0} (w : Widths L) (plain : L → L) (a b : List ℕ) (rows : List (Row L)) (i : ℕ) (row : Row L) → All (IsWellFormedRow w) (map (plain_row plain) rows) → All (IsWellFormedRow w) (map (moved a b) (map (plain_row plain) rows))
    → i < length rows → row ≡ get_or rows i row → RowAt w a b (plain_row plain row)
row_at w plain a b rows i row own there lt at =
    let once = mapped_at (plain_row plain) rows i row lt at in
    let twice = mapped_at (moved a b) (map (plain_row plain) rows) i (plain_row plain row) once.short once.at in
    record {
      own = item-well_formed (IsWellFormedRow w) (map (plain_row plain) rows) i (plain_row plain row) once.short once.at own;
      there = item-well_formed (IsWellFormedRow w) (map (moved a b) (map (plain_row plain) rows)) i (moved a b (plain_row plain row)) twice.short twice.at there;
    }
