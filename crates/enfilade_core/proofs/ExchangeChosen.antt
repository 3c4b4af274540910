-- The branch that new rows go into.
use Rattle.std.proofs.Common.{◌≡◌, ◌≢◌, ◌⊎◌, inl, inr, ℕ, ◌+◌, ◌<◌, ◌≤◌, Bool, true, false, List, [], ◌∷◌, ◌++◌, length, get_or, take, drop, refl, arith, ap, ◌∙◌, sym, subst}
use Rattle.std.proofs.lemmas.List.Elements.{All-nil}
use Rattle.std.proofs.lemmas.List.{drop_more, drop_all}
use Rattle.tumbler.specs.Places.{comes_before}
use Rattle.tumbler.proofs.Order.{upto_before}
use Rattle.tumbler.proofs.Before.{before_if_true, true_if_before}
use Rattle.enfilade_core.specs.declared.tree.Row.{Row}
use Rattle.enfilade_core.specs.declared.tree.Branch.{Branch}
use Rattle.enfilade_core.specs.Rows.{Shape, Branches, branch_rows, rows_table}
use Rattle.enfilade_core.specs.Axes.{Widths, InOrder}
use Rattle.enfilade_core.specs.WellFormed.{IsWellFormed}
use Rattle.enfilade_core.specs.Following.{first_coordinate, last_coordinate}
use Rattle.enfilade_core.specs.Exchange.{IsChosen}
use Rattle.enfilade_core.proofs.Fronts.{some_long}
use Rattle.enfilade_core.proofs.GoneThrough.{around}
use Rattle.enfilade_core.proofs.Orders.{InOrder-front, InOrder-back, InOrder-seam}
use Rattle.enfilade_core.proofs.BesideRows.{all_before, all_past}
use Rattle.enfilade_core.proofs.ExchangeLists.{AllBefore, NoneBefore}
use Rattle.enfilade_core.proofs.ExchangeGrown.{flat_rows, flat-around}

-- rows in front of one that comes before a coordinate
before-seam : {L : Type 0} (at : List ℕ) (rows more : List (Row L)) → InOrder (rows ++ more) → more ≢ [] → comes_before (first_coordinate more) at ≡ true → AllBefore at rows
before-seam at [] more h some e = All-nil (λ r. comes_before r.first at ≡ true)
before-seam at (row ∷ rows) more h some e =
    let seam = InOrder-seam (row ∷ rows) more h (λ q. cc) some in
    all_before at (row ∷ rows) (InOrder-front (row ∷ rows) more h)
    (true_if_before (last_coordinate (row ∷ rows)) at (upto_before (last_coordinate (row ∷ rows)) (first_coordinate more) at seam (before_if_true (first_coordinate more) at e)))

pub first-append : {L : Type 0} (rows more : List (Row L)) → rows ≢ [] → first_coordinate (rows ++ more) ≡ first_coordinate rows
first-append [] more some = absurd (some refl)
first-append (row ∷ rows) more some = refl

pub filled-append : {L : Type 0} (rows more : List (Row L)) → rows ≢ [] → rows ++ more ≢ []
filled-append [] more some e = some refl
filled-append (row ∷ rows) more some e = cc

-- the last branch that has a row before the coordinate, or the first one, is number `low` or stands behind it and
-- in front of number `high`
pub record ChosenBetween {L : Type 0} (nodes : List (Shape L)) (branches : List Branch) (at : List ℕ) (low high : ℕ) : Type 0 where
  pub some : low < high
  pub short : high ≤ length branches
  pub front : AllBefore at (flat_rows nodes (take low branches))
  pub here : (low ≡ 0) ⊎ (comes_before (first_coordinate (flat_rows nodes (drop low branches))) at ≡ true)
  pub back : NoneBefore at (flat_rows nodes (drop high branches))

none-behind : {L : Type 0} (nodes : List (Shape L)) (branches : List Branch) (at : List ℕ) (n : ℕ) → drop n branches ≡ [] → NoneBefore at (flat_rows nodes (drop n branches))
none-behind nodes branches at n none = subst (λ (bs : List Branch). NoneBefore at (flat_rows nodes bs)) (sym none) (All-nil (λ r. comes_before r.first at ≡ false))

pub chosen-start : {L : Type 0} (w : Widths L) (nodes : List (Shape L)) (branches : List Branch) (at : List ℕ) → IsWellFormed w nodes (Branches branches) → ChosenBetween nodes branches at 0 (length branches)
chosen-start w nodes branches at well_formed = record {
  some = some_long branches well_formed.branches.some;
  short = omega arith;
  front = All-nil (λ r. comes_before r.first at ≡ true);
  here = inl refl;
  back = none-behind nodes branches at (length branches) (drop_all (length branches) branches (omega arith));
}

-- from a number on no row comes before the coordinate
pub chosen-none : {L : Type 0} (nodes : List (Shape L)) (branches : List Branch) (at : List ℕ) (n : ℕ) → 0 < n → n ≤ length branches → NoneBefore at (flat_rows nodes (drop n branches)) → ChosenBetween nodes branches at 0 n
chosen-none nodes branches at n some short back = record { some = some; short = short; front = All-nil (λ r. comes_before r.first at ≡ true); here = inl refl; back = back }

-- number k is a branch with these rows
pub record ChosenItem {L : Type 0} (w : Widths L) (nodes : List (Shape L)) (branches : List Branch) (k : ℕ) (branch : Branch) : Type 0 where
  pub well_formed : IsWellFormed w nodes (Branches branches)
  pub short : k < length branches
  pub is : branch ≡ get_or branches k branch
  pub filled : branch_rows (rows_table nodes) branch ≢ []

parted : {L : Type 0} (w : Widths L) (nodes : List (Shape L)) (branches : List Branch) (k : ℕ) (branch : Branch) → ChosenItem w nodes branches k branch
    → InOrder (flat_rows nodes (take k branches) ++ (branch_rows (rows_table nodes) branch ++ flat_rows nodes (drop (k + 1) branches)))
parted w nodes branches k branch i = subst InOrder (flat-around nodes branches k branch (around branches k branch i.short i.is)) i.well_formed.ordered

from-there : {L : Type 0} (w : Widths L) (nodes : List (Shape L)) (branches : List Branch) (k : ℕ) (branch : Branch) → ChosenItem w nodes branches k branch
    → branch_rows (rows_table nodes) branch ++ flat_rows nodes (drop (k + 1) branches) ≡ flat_rows nodes (drop k branches)
from-there w nodes branches k branch i =
    sym (ap (flat_rows nodes) (drop_more branches k branch i.short ∙ ap (λ (b : Branch). b ∷ drop (k + 1) branches) (sym i.is)))

first-there : {L : Type 0} (w : Widths L) (nodes : List (Shape L)) (branches : List Branch) (at : List ℕ) (k : ℕ) (branch : Branch) (t : Bool) → ChosenItem w nodes branches k branch → comes_before (first_coordinate (branch_rows (rows_table nodes) branch)) at ≡ t
    → comes_before (first_coordinate (branch_rows (rows_table nodes) branch ++ flat_rows nodes (drop (k + 1) branches))) at ≡ t
first-there w nodes branches at k branch t i e =
    ap (λ (p : List ℕ). comes_before p at) (first-append (branch_rows (rows_table nodes) branch) (flat_rows nodes (drop (k + 1) branches)) i.filled) ∙ e

pub chosen-low : {L : Type 0} (w : Widths L) (nodes : List (Shape L)) (branches : List Branch) (at : List ℕ) (low high k : ℕ) (branch : Branch) → ChosenBetween nodes branches at low high → k < high → ChosenItem w nodes branches k branch
    → comes_before (first_coordinate (branch_rows (rows_table nodes) branch)) at ≡ true → ChosenBetween nodes branches at k high
chosen-low {L} w nodes branches at low high k branch so lt i e =
    let rows = branch_rows (rows_table nodes) branch in
    let rest = flat_rows nodes (drop (k + 1) branches) in
    let there = first-there w nodes branches at k branch true i e in
    record {
      some = lt;
      short = so.short;
      front = before-seam at (flat_rows nodes (take k branches)) (rows ++ rest) (parted w nodes branches k branch i) (filled-append rows rest i.filled) there;
      here = inr (subst (λ (r : List (Row L)). comes_before (first_coordinate r) at ≡ true) (from-there w nodes branches k branch i) there);
      back = so.back;
    }

pub chosen-high : {L : Type 0} (w : Widths L) (nodes : List (Shape L)) (branches : List Branch) (at : List ℕ) (low high k : ℕ) (branch : Branch) → ChosenBetween nodes branches at low high → low < k → ChosenItem w nodes branches k branch
    → comes_before (first_coordinate (branch_rows (rows_table nodes) branch)) at ≡ false → ChosenBetween nodes branches at low k
chosen-high w nodes branches at low high k branch so lt i e =
    let rows = branch_rows (rows_table nodes) branch in
    let rest = flat_rows nodes (drop (k + 1) branches) in
    record {
      some = lt;
      short = omega (arith, i.short);
      front = so.front;
      here = so.here;
      back = subst (NoneBefore at) (from-there w nodes branches k branch i)
          (all_past at (rows ++ rest) (InOrder-back (flat_rows nodes (take k branches)) (rows ++ rest) (parted w nodes branches k branch i)) (first-there w nodes branches at k branch false i e));
    }

pub chosen-found : {L : Type 0} (nodes : List (Shape L)) (branches : List Branch) (at : List ℕ) (low high : ℕ) → ChosenBetween nodes branches at low high → high ≤ low + 1 → IsChosen nodes branches at low
chosen-found nodes branches at low high so le = record {
  there = omega (arith, so.some, so.short);
  front = so.front;
  back = subst (λ (n : ℕ). NoneBefore at (flat_rows nodes (drop n branches))) (omega (arith, so.some, le)) so.back;
}
