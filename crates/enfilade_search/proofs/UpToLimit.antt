-- What is held of rows where a search is given up past a limit.
use Rattle.std.proofs.Common.{◌≡◌, ℕ, ◌+◌, ◌<◌, ◌≤◌, Bool, false, not, List, [], ◌∷◌, ◌++◌, length, get_or, take, drop, map, refl, ap, ◌∙◌, sym, subst, arith, inl, inr, length-append}
use Rattle.std.specs.List.{All, filter, flat_map}
use Rattle.std.proofs.lemmas.List.{take-append-drop, take_all, map-append, length-map}
use Rattle.std.proofs.lemmas.List.Elements.{filter-append}
use Rattle.std.proofs.lemmas.Grind.{flat_map-append}
use Rattle.tumbler.specs.Places.{sum}
use Rattle.enfilade_core.specs.declared.tree.Row.{Row}
use Rattle.enfilade_core.specs.declared.tree.Branch.{Branch}
use Rattle.enfilade_core.specs.Rows.{Shape, moved, rows_of}
use Rattle.enfilade_core.specs.Axes.{Widths, InOrder, IsWellFormedRow}
use Rattle.enfilade_core.specs.WellFormed.{IsWellFormedBranch, AreWellFormed}
use Rattle.enfilade_core.specs.Laws.{rows_from}
use Rattle.enfilade_core.specs.Plain.{plain_row}
use Rattle.enfilade_search.specs.declared.sought.Sought.{Sought}
use Rattle.enfilade_search.specs.Sought.{is_sought, is_past, FitsAt}
use Rattle.enfilade_search.specs.Limits.{HoldsUpTo}
use Rattle.enfilade_search.proofs.Children.{child_rows, found_from_root}
use Rattle.enfilade_search.proofs.Gathering.{gathered_more, gathered_all}
use Rattle.enfilade_search.proofs.Placing.{rows_more}
use Rattle.enfilade_search.proofs.Stopping.{held_rows_stop, held_children_stop}

pub all_held : {X : Type 0} (limit : ℕ) (all held : List X) → held ≡ all → HoldsUpTo limit all held
all_held limit all held is = inl is

-- all of it is the same as what was said
pub as_well : {X : Type 0} (limit : ℕ) (all other held : List X) → all ≡ other → HoldsUpTo limit all held → HoldsUpTo limit other held
as_well limit all other held is held_now = subst (λ (xs : List _). HoldsUpTo limit xs held) is held_now

-- one part more comes behind what was held
pub one_part_more : {X : Type 0} (limit : ℕ) (all held next part : List X) → HoldsUpTo limit all held → HoldsUpTo limit (held ++ part) next → HoldsUpTo limit (all ++ part) next
one_part_more limit all held next part (inl is) later = subst (λ (xs : List _). HoldsUpTo limit (xs ++ part) next) is later
one_part_more limit all held next part (inr many) (inl is) =
    let a : length next ≡ length held + length part = ap length is ∙ length-append held part in
    let b : length (all ++ part) ≡ length all + length part = length-append all part in
    let m = many.0 in
    let n = many.1 in
    inr (omega arith, omega arith)
one_part_more limit all held next part (inr many) (inr more) =
    let b : length (all ++ part) ≡ length all + length part = length-append all part in
    let n = many.1 in
    inr (more.0, omega arith)

-- what is held is past the limit already
pub given_up : {X : Type 0} (limit : ℕ) (all other held : List X) → limit < length held → length all ≤ length other → HoldsUpTo limit all held → HoldsUpTo limit other held
given_up limit all other held full longer (inl is) =
    let same : length held ≡ length all = ap length is in
    inr (full, omega arith)
given_up limit all other held full longer (inr many) =
    let n = many.1 in
    inr (full, omega arith)

-- ---- the front of what is found

front_shorter : {A X : Type 0} (found : List A → List X) → ((xs ys : List A) → found (xs ++ ys) ≡ found xs ++ found ys) → (old : List X) (k : ℕ) (xs : List A) → length (old ++ found (take k xs)) ≤ length (old ++ found xs)
front_shorter found joins old k xs =
    let whole : length (found xs) ≡ length (found (take k xs)) + length (found (drop k xs)) =
    ap (λ ys. length (found ys)) (sym (take-append-drop k xs)) ∙ ap length (joins (take k xs) (drop k xs)) ∙ length-append (found (take k xs)) (found (drop k xs)) in
    let a : length (old ++ found (take k xs)) ≡ length old + length (found (take k xs)) = length-append old (found (take k xs)) in
    let b : length (old ++ found xs) ≡ length old + length (found xs) = length-append old (found xs) in
    omega arith

pub fewer_rows : {L : Type 0} (plain : L → L) (test : Row L → Bool) (a b : List ℕ) (old : List (Row L)) (k : ℕ) (rows : List (Row L))
    → length (old ++ filter test (map (moved a b) (map (plain_row plain) (take k rows)))) ≤ length (old ++ filter test (map (moved a b) (map (plain_row plain) rows)))
fewer_rows plain test a b old k rows =
    front_shorter (λ (rs : List (Row _)). filter test (map (moved a b) (map (plain_row plain) rs)))
    (λ xs ys. ap (λ (rs : List (Row _)). filter test (map (moved a b) rs)) (map-append (plain_row plain) xs ys)
    ∙ ap (filter test) (map-append (moved a b) (map (plain_row plain) xs) (map (plain_row plain) ys))
    ∙ filter-append test (map (moved a b) (map (plain_row plain) xs)) (map (moved a b) (map (plain_row plain) ys))) old k rows

pub fewer_children : {A X : Type 0} (test : X → Bool) (items_of : A → List X) (old : List X) (k : ℕ) (children : List A) → length (old ++ filter test (flat_map items_of (take k children))) ≤ length (old ++ filter test (flat_map items_of children))
fewer_children test items_of old k children =
    front_shorter (λ (cs : List _). filter test (flat_map items_of cs))
    (λ xs ys. ap (filter test) (flat_map-append items_of xs ys) ∙ filter-append test (flat_map items_of xs) (flat_map items_of ys)) old k children

-- ---- the whole tree

pub whole_if_few : {X : Type 0} (limit : ℕ) (all held : List X) → length held ≤ limit → HoldsUpTo limit all held → held ≡ all
whole_if_few limit all held few (inl is) = is
whole_if_few limit all held few (inr many) = let m = many.0 in absurd (omega arith)

pub more_if_many : {X : Type 0} (limit : ℕ) (all held : List X) → limit < length held → HoldsUpTo limit all held → limit < length all
more_if_many limit all held many (inl is) = let same : length held ≡ length all = ap length is in omega arith
more_if_many limit all held many (inr more) = more.1

-- ---- as the loops have it

module _ {L : Type 0} (plain : L → L) (test : Row L → Bool) (a b : List ℕ) (limit : ℕ) where
  abbrev all_of : List (Row L) → List (Row L)
  all_of rows = filter test (map (moved a b) (map (plain_row plain) rows))

  pub rows_more_held : (rows : List (Row L)) (i : ℕ) (row : Row L) (held so_far now : List (Row L)) → i < length rows → row ≡ get_or rows i row → HoldsUpTo limit (held ++ all_of (take i rows)) so_far
      → now ≡ so_far ++ filter test (moved a b (plain_row plain row) ∷ []) → HoldsUpTo limit (held ++ all_of (take (i + 1) rows)) now
  rows_more_held rows i row held so_far now lt at before is =
      as_well limit ((held ++ all_of (take i rows)) ++ filter test (moved a b (plain_row plain row) ∷ [])) (held ++ all_of (take (i + 1) rows)) now
      (rows_more plain test a b rows i row held (held ++ all_of (take i rows)) ((held ++ all_of (take i rows)) ++ filter test (moved a b (plain_row plain row) ∷ [])) lt at refl refl)
      (one_part_more limit (held ++ all_of (take i rows)) so_far now (filter test (moved a b (plain_row plain row) ∷ [])) before (inl is))

  pub rows_given_up : (k count : ℕ) (rows held : List (Row L)) (out : List (Row L)) → count ≡ length out → limit < count → HoldsUpTo limit (held ++ all_of (take k rows)) (map (plain_row plain) out) → HoldsUpTo limit (held ++ all_of rows) (map (plain_row plain) out)
  rows_given_up k count rows held out is many so_far =
      let long : length (map (plain_row plain) out) ≡ length out = length-map out (plain_row plain) in
      given_up limit (held ++ all_of (take k rows)) (held ++ all_of rows) (map (plain_row plain) out) (omega arith) (fewer_rows plain test a b held k rows) so_far

  pub rows_all_held : (rows : List (Row L)) (i : ℕ) (held now : List (Row L)) → length rows ≤ i → HoldsUpTo limit (held ++ all_of (take i rows)) now → HoldsUpTo limit (held ++ all_of rows) now
  rows_all_held rows i held now le so_far = as_well limit (held ++ all_of (take i rows)) (held ++ all_of rows) now (ap (λ (rs : List (Row L)). held ++ all_of rs) (take_all i rows le)) so_far

pub rows_stop_held : {L : Type 0} (w : Widths L) (plain : L → L) (sought : Sought) (a b : List ℕ) (limit : ℕ) (rows : List (Row L)) (i : ℕ) (row : Row L) (more : Bool) (held now : List (Row L)) → All (IsWellFormedRow w) (map (moved a b) (map (plain_row plain) rows))
    → InOrder (map (moved a b) (map (plain_row plain) rows)) → i < length rows → row ≡ get_or rows i row → more ≡ not (is_past sought (sum a row.first)) → more ≡ false
    → HoldsUpTo limit (held ++ filter (is_sought w sought) (map (moved a b) (map (plain_row plain) (take (i + 1) rows)))) now → HoldsUpTo limit (held ++ filter (is_sought w sought) (map (moved a b) (map (plain_row plain) rows))) now
rows_stop_held w plain sought a b limit rows i row more held now well_formed ordered lt is goes_on stops so_far =
    let front = held ++ filter (is_sought w sought) (map (moved a b) (map (plain_row plain) (take (i + 1) rows))) in
    as_well limit front (held ++ filter (is_sought w sought) (map (moved a b) (map (plain_row plain) rows))) now (held_rows_stop w plain sought a b rows i row more held front well_formed ordered lt is goes_on stops refl) so_far

module _ {A X : Type 0} (test : X → Bool) (items_of : A → List X) (limit : ℕ) where
  pub children_more_held : (xs : List A) (i : ℕ) (x : A) (held so_far now : List X) → i < length xs → x ≡ get_or xs i x → HoldsUpTo limit (held ++ filter test (flat_map items_of (take i xs))) so_far → HoldsUpTo limit (so_far ++ filter test (items_of x)) now
      → HoldsUpTo limit (held ++ filter test (flat_map items_of (take (i + 1) xs))) now
  children_more_held xs i x held so_far now lt at before is =
      let front = held ++ filter test (flat_map items_of (take i xs)) in
      as_well limit (front ++ filter test (items_of x)) (held ++ filter test (flat_map items_of (take (i + 1) xs))) now
      (gathered_more test items_of xs i x held front (front ++ filter test (items_of x)) lt at refl refl)
      (one_part_more limit front so_far now (filter test (items_of x)) before is)

  pub children_all_held : (xs : List A) (i : ℕ) (held now whole : List X) → length xs ≤ i → whole ≡ flat_map items_of xs → HoldsUpTo limit (held ++ filter test (flat_map items_of (take i xs))) now → HoldsUpTo limit (held ++ filter test whole) now
  children_all_held xs i held now whole le is so_far =
      let front = held ++ filter test (flat_map items_of (take i xs)) in
      as_well limit front (held ++ filter test whole) now (gathered_all test items_of xs i held front whole le is refl) so_far

pub children_given_up : {A L : Type 0} (plain : L → L) (test : Row L → Bool) (items_of : A → List (Row L)) (limit k count : ℕ) (xs : List A) (held whole : List (Row L)) (out : List (Row L)) → whole ≡ flat_map items_of xs → count ≡ length out → limit < count
    → HoldsUpTo limit (held ++ filter test (flat_map items_of (take k xs))) (map (plain_row plain) out) → HoldsUpTo limit (held ++ filter test whole) (map (plain_row plain) out)
children_given_up plain test items_of limit k count xs held whole out is counted many so_far =
    let long : length (map (plain_row plain) out) ≡ length out = length-map out (plain_row plain) in
    let same : length (held ++ filter test whole) ≡ length (held ++ filter test (flat_map items_of xs)) = ap (λ (rs : List (Row _)). length (held ++ filter test rs)) is in
    let fewer = fewer_children test items_of held k xs in
    given_up limit (held ++ filter test (flat_map items_of (take k xs))) (held ++ filter test whole) (map (plain_row plain) out) (omega arith) (omega arith) so_far

pub children_stop_held : {L : Type 0} (w : Widths L) (nodes : List (Shape L)) (sought : Sought) (limit k : ℕ) (a b : List ℕ) (children : List Branch) (i : ℕ) (child : Branch) (more : Bool) (held now : List (Row L)) → AreWellFormed w nodes → FitsAt w nodes k a b
    → rows_from nodes k a b ≡ flat_map (child_rows nodes a b) children → IsWellFormedBranch w nodes child → i < length children → child ≡ get_or children i child → more ≡ not (is_past sought (sum a child.first)) → more ≡ false
    → HoldsUpTo limit (held ++ filter (is_sought w sought) (flat_map (child_rows nodes a b) (take (i + 1) children))) now → HoldsUpTo limit (held ++ filter (is_sought w sought) (rows_from nodes k a b)) now
children_stop_held w nodes sought limit k a b children i child more held now well_formed fits rows branch lt is goes_on stops so_far =
    let front = held ++ filter (is_sought w sought) (flat_map (child_rows nodes a b) (take (i + 1) children)) in
    as_well limit front (held ++ filter (is_sought w sought) (rows_from nodes k a b)) now (held_children_stop w nodes sought k a b children i child more held front well_formed fits rows branch lt is goes_on stops refl) so_far

module _ {L : Type 0} (plain : L → L) (test : Row L → Bool) (nodes : List (Shape L)) (k limit count : ℕ) (zero_place : List ℕ) (held out : List (Row L)) (zero_is : zero_place ≡ []) (none : held ≡ []) (counted : count ≡ length out) where
  abbrev all_from : List (Row L)
  all_from = map (plain_row plain) held ++ filter test (rows_from nodes k zero_place zero_place)

  all_are : all_from ≡ filter test (rows_of nodes k)
  all_are = found_from_root plain test nodes k zero_place held all_from zero_is none refl

  pub tree_if_few : count ≤ limit → HoldsUpTo limit all_from (map (plain_row plain) out) → map (plain_row plain) out ≡ filter test (rows_of nodes k)
  tree_if_few few held_now =
      let long : length (map (plain_row plain) out) ≡ length out = length-map out (plain_row plain) in
      whole_if_few limit all_from (map (plain_row plain) out) (omega arith) held_now ∙ all_are

  pub tree_if_many : limit < count → HoldsUpTo limit all_from (map (plain_row plain) out) → limit < length (filter test (rows_of nodes k))
  tree_if_many many held_now =
      let long : length (map (plain_row plain) out) ≡ length out = length-map out (plain_row plain) in
      subst (λ (rs : List (Row L)). limit < length rs) all_are (more_if_many limit all_from (map (plain_row plain) out) (omega arith) held_now)
