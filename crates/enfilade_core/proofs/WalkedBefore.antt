-- The last row that comes before a coordinate, where rows are counted and a branch is chosen as they are seen from a base.
use Rattle.std.proofs.Common.{◌≡◌, ◌≢◌, ◌⊎◌, inl, inr, ℕ, zero, suc, ◌+◌, ◌-◌, ◌<◌, Bool, true, false, cond, List, [], ◌∷◌, ◌++◌, length, get_or, take, drop, map, refl, arith, ap, ◌∙◌, sym, subst, Option, Some, None, Contains}
use Rattle.std.specs.List.{All}
use Rattle.std.proofs.lemmas.List.{drop_more}
use Rattle.std.proofs.lemmas.List.Elements.{All-head, All-tail, All-weaker}
use Rattle.tumbler.specs.Places.{EndsWell, IsTumbler, IsUpTo, comes_before, sum}
use Rattle.tumbler.proofs.Alls.{All-back}
use Rattle.tumbler.proofs.Before.{before_if_true, true_if_before}
use Rattle.tumbler.proofs.Order.{upto_before}
use Rattle.enfilade_core.specs.declared.tree.Row.{Row}
use Rattle.enfilade_core.specs.declared.tree.Branch.{Branch}
use Rattle.enfilade_core.specs.Rows.{Shape, Branches, moved, branch_rows, rows_table, rows_of}
use Rattle.enfilade_core.specs.Axes.{Widths, first_axis, second_axis, InOrder, IsWellFormedRow, IsWellFormedRows}
use Rattle.enfilade_core.specs.WellFormed.{origins_table, IsWellFormed, IsWellFormedPart}
use Rattle.enfilade_core.specs.Plain.{plain_row}
use Rattle.enfilade_core.specs.Edits.{or_else, last_before}
use Rattle.enfilade_core.specs.Following.{first_coordinate}
use Rattle.enfilade_core.specs.Exchange.{rows_before, branch_at, IsChosen}
use Rattle.enfilade_core.specs.Touched.{IsSeenFrom}
use Rattle.enfilade_core.proofs.Nodes.{node-parts}
use Rattle.enfilade_core.proofs.GoneThrough.{around, mapped_at, item-well_formed}
use Rattle.enfilade_core.proofs.Seen.{rows-moved_twice}
use Rattle.enfilade_core.proofs.BesideRows.{all_past}
use Rattle.enfilade_core.proofs.ExchangeLists.{NoneBefore, before-none}
use Rattle.enfilade_core.proofs.ExchangeGrown.{flat_rows, flat-around}
use Rattle.enfilade_core.proofs.ExchangeBottom.{count-short, count-plain}
use Rattle.enfilade_core.proofs.ExchangeChosen.{first-append, filled-append}
use Rattle.enfilade_core.proofs.SeenPlaces.{flat-moved}

-- ---- rows behind others

-- where none of the rows behind comes before the coordinate, they change nothing
before-front : {L : Type 0} (at : List ℕ) (rows more : List (Row L)) → last_before at more ≡ None → last_before at (rows ++ more) ≡ last_before at rows
before-front at [] more none = none
before-front at (row ∷ rows) more none = ap (λ (o : Option (Row _)). cond (comes_before row.first at) (or_else o row) None) (before-front at rows more none)

none-before : {L : Type 0} (at : List ℕ) (rows more : List (Row L)) → rows ≢ [] → comes_before (first_coordinate rows) at ≡ false → last_before at (rows ++ more) ≡ None
none-before at [] more some past = absurd (some refl)
none-before at (row ∷ rows) more some past = rw past refl

-- where none of all rows comes before the coordinate, there is no last one
none-past : {L : Type 0} (at : List ℕ) (rows : List (Row L)) → NoneBefore at rows → last_before at rows ≡ None
none-past at [] past = refl
none-past {L} at (row ∷ rows) past = rw (All-head (λ (r : Row L). comes_before r.first at ≡ false) row rows past) refl

or_else-twice : {L : Type 0} (o : Option (Row L)) (a b : Row L) → or_else (or_else o a) b ≡ or_else o a
or_else-twice (Some x) a b = refl
or_else-twice None a b = refl

first-found : {L : Type 0} (at : List ℕ) (row : Row L) (rows : List (Row L)) → comes_before row.first at ≡ true → last_before at (row ∷ rows) ≡ or_else (last_before at rows) row
first-found at row rows before = rw before refl

keeps : {L : Type 0} (at : List ℕ) (rows : List (Row L)) (row : Row L) → rows ≢ [] → comes_before (first_coordinate rows) at ≡ true → or_else (last_before at rows) row ≡ last_before at rows
keeps at [] row some before = absurd (some refl)
keeps at (next ∷ rows) row some before =
    let is = first-found at next rows before in
    ap (λ (o : Option (Row _)). or_else o row) is ∙ or_else-twice (last_before at rows) next row ∙ sym is

up_to_first : {L : Type 0} (coordinate : List ℕ) (rows : List (Row L)) → rows ≢ [] → All (λ (r : Row L). IsUpTo coordinate r.first) rows → IsUpTo coordinate (first_coordinate rows)
up_to_first coordinate [] some h = absurd (some refl)
up_to_first {L} coordinate (row ∷ rows) some h = All-head (λ (r : Row L). IsUpTo coordinate r.first) row rows h

-- where the first of the rows behind comes before the coordinate, the last is among those
before-back : {L : Type 0} (at : List ℕ) (rows more : List (Row L)) → InOrder (rows ++ more) → more ≢ [] → comes_before (first_coordinate more) at ≡ true → last_before at (rows ++ more) ≡ last_before at more
before-back at [] more ordered some before = refl
before-back {L} at (row ∷ rows) more ordered some before =
    let up = up_to_first row.first more some (All-back (λ (r : Row L). IsUpTo row.first r.first) rows more ordered.0) in
    let own : comes_before row.first at ≡ true = true_if_before row.first at (upto_before row.first (first_coordinate more) at up (before_if_true (first_coordinate more) at before)) in
    first-found at row (rows ++ more) own ∙ ap (λ (o : Option (Row L)). or_else o row) (before-back at rows more ordered.1 some before) ∙ keeps at more row some before

-- ---- rows that are counted

counted-more : {L : Type 0} (at : List ℕ) (row : Row L) (rows : List (Row L)) → comes_before row.first at ≡ true → length (rows_before at (row ∷ rows)) ≡ suc (length (rows_before at rows))
counted-more at row rows before = rw before refl

none-counted : {L : Type 0} (at : List ℕ) (rows : List (Row L)) → length (rows_before at rows) ≡ 0 → last_before at rows ≡ None
none-counted at [] e = refl
none-counted at (row ∷ rows) e = elim (comes_before row.first at) as (λ b. comes_before row.first at ≡ b → last_before at (row ∷ rows) ≡ None) [
  | true ↦ λ before. absurd (omega (arith, e, counted-more at row rows before))
  | false ↦ λ past. rw past refl
] refl

-- row n of some in order, where as many come before the coordinate and one more
abbrev CountedAt : {L : Type 0} → List ℕ → List (Row L) → Row L → ℕ → Type 0
CountedAt at rows row n = length (rows_before at rows) ≡ suc n → row ≡ get_or rows n row → last_before at rows ≡ Some row

one-counted : {L : Type 0} (at : List ℕ) (first row : Row L) (rows : List (Row L)) (n : ℕ) → ((m : ℕ) → CountedAt at rows row m) → length (rows_before at rows) ≡ n → row ≡ get_or (first ∷ rows) n row → or_else (last_before at rows) first ≡ Some row
one-counted at first row rows zero rest e is = ap (λ (o : Option (Row _)). or_else o first) (none-counted at rows e) ∙ ap (λ (r : Row _). Some r) (sym is)
one-counted at first row rows (suc m) rest e is = ap (λ (o : Option (Row _)). or_else o first) (rest m e is)

last-counted : {L : Type 0} (at : List ℕ) (rows : List (Row L)) (row : Row L) → InOrder rows → (n : ℕ) → CountedAt at rows row n
last-counted at [] row ordered n e is = absurd (omega (arith, e))
last-counted at (first ∷ rows) row ordered n e is = elim (comes_before first.first at) as (λ b. comes_before first.first at ≡ b → last_before at (first ∷ rows) ≡ Some row) [
  | true ↦ λ before. first-found at first rows before ∙ one-counted at first row rows n (last-counted at rows row ordered.1) (omega (arith, e, counted-more at first rows before)) is
  | false ↦ λ past. absurd (omega (arith, e, ap length (before-none at (first ∷ rows) (all_past at (first ∷ rows) ordered past))))
] refl

-- ---- rows as they are seen from a base

abbrev moved_if : {L : Type 0} → List ℕ → List ℕ → Option (Row L) → Option (Row L)
moved_if a b (Some row) = Some (moved a b row)
moved_if a b None = None

stands-seen : (at base seen coordinate : List ℕ) → IsSeenFrom at base seen → EndsWell coordinate → comes_before (sum base coordinate) at ≡ comes_before coordinate seen
stands-seen at base seen coordinate s ends = elim (comes_before coordinate seen) as (λ b. comes_before coordinate seen ≡ b → comes_before (sum base coordinate) at ≡ comes_before coordinate seen) [
  | true ↦ λ e. s.before coordinate e ∙ sym e
  | false ↦ λ e. s.past coordinate ends e ∙ sym e
] refl

or_else-moved : {L : Type 0} (a b : List ℕ) (t : Bool) (o : Option (Row L)) (row : Row L) → cond t (or_else (moved_if a b o) (moved a b row)) None ≡ moved_if a b (cond t (or_else o row) None)
or_else-moved a b true (Some x) row = refl
or_else-moved a b true None row = refl
or_else-moved a b false o row = refl

-- the last one is the last one that comes before the coordinate as it is seen, moved
last-seen : {L : Type 0} (at a b seen : List ℕ) (rows : List (Row L)) → IsSeenFrom at a seen → All (λ (r : Row L). EndsWell r.first) rows → last_before at (map (moved a b) rows) ≡ moved_if a b (last_before seen rows)
last-seen at a b seen [] s ends = refl
last-seen {L} at a b seen (row ∷ rows) s ends =
    let P : Row L → Type 0 = λ r. EndsWell r.first in
    ap (λ (t : Bool). cond t (or_else (last_before at (map (moved a b) rows)) (moved a b row)) None) (stands-seen at a seen row.first s (All-head P row rows ends))
    ∙ ap (λ (o : Option (Row L)). cond (comes_before row.first seen) (or_else o (moved a b row)) None) (last-seen at a b seen rows s (All-tail P row rows ends))
    ∙ or_else-moved a b (comes_before row.first seen) (last_before seen rows) row

all-end : {L : Type 0} (w : Widths L) (rows : List (Row L)) → All (IsWellFormedRow w) rows → All (λ (r : Row L). EndsWell r.first) rows
all-end {L} w rows well_formed = All-weaker (IsWellFormedRow w) (λ (r : Row L). EndsWell r.first) (λ r h. h.first_coordinate.ends) rows well_formed

-- ---- rows of a bottom node

pub row-short : {L : Type 0} (at : List ℕ) (rows : List (Row L)) (n : ℕ) → n ≡ length (rows_before at rows) → n ≢ 0 → n - 1 < length rows
row-short at rows n is some = omega (arith, is, some, count-short at rows)

pub row-found : {L : Type 0} (plain : L → L) (w : Widths L) (at a b seen : List ℕ) (rows : List (Row L)) (n : ℕ) (row : Row L) → IsSeenFrom at a seen → IsWellFormedRows w (map (plain_row plain) rows) → n ≡ length (rows_before seen rows) → n ≢ 0 → row ≡ get_or rows (n - 1) row
    → last_before at (map (moved a b) (map (plain_row plain) rows)) ≡ Some (moved a b (plain_row plain row))
row-found plain w at a b seen rows n row s well_formed is some item =
    let own = map (plain_row plain) rows in
    let there = mapped_at (plain_row plain) rows (n - 1) row (row-short seen rows n is some) item in
    last-seen at a b seen own s (all-end w own well_formed.each)
    ∙ ap (moved_if a b) (last-counted seen own (plain_row plain row) well_formed.ordered (n - 1) (omega (arith, is, some, count-plain plain seen rows)) there.at)

pub no-row : {L : Type 0} (plain : L → L) (w : Widths L) (at a b seen : List ℕ) (rows : List (Row L)) (n : ℕ) → IsSeenFrom at a seen → IsWellFormedRows w (map (plain_row plain) rows) → n ≡ length (rows_before seen rows) → n ≡ 0
    → last_before at (map (moved a b) (map (plain_row plain) rows)) ≡ None
no-row plain w at a b seen rows n s well_formed is none =
    let own = map (plain_row plain) rows in
    last-seen at a b seen own s (all-end w own well_formed.each) ∙ ap (moved_if a b) (none-counted seen own (omega (arith, is, none, count-plain plain seen rows)))

-- ---- branches of an inner node

-- the branch that was chosen for a coordinate as it is seen from the node
pub record ChosenSeen {L : Type 0} (w : Widths L) (nodes : List (Shape L)) (branches : List Branch) (seen : List ℕ) (k : ℕ) (branch : Branch) : Type 0 where
  pub well_formed : IsWellFormed w nodes (Branches branches)
  pub chosen : IsChosen nodes branches seen k
  pub here : (k ≡ 0) ⊎ (comes_before (first_coordinate (flat_rows nodes (drop k branches))) seen ≡ true)
  pub item : branch ≡ get_or branches k branch
  pub some : branch_rows (rows_table nodes) branch ≢ []

parted : {L : Type 0} (w : Widths L) (nodes : List (Shape L)) (branches : List Branch) (seen : List ℕ) (k : ℕ) (branch : Branch) → ChosenSeen w nodes branches seen k branch
    → flat_rows nodes branches ≡ flat_rows nodes (take k branches) ++ (branch_rows (rows_table nodes) branch ++ flat_rows nodes (drop (k + 1) branches))
parted w nodes branches seen k branch c = flat-around nodes branches k branch (around branches k branch c.chosen.there c.item)

last-own : {L : Type 0} (w : Widths L) (nodes : List (Shape L)) (branches : List Branch) (seen : List ℕ) (k : ℕ) (branch : Branch) → ChosenSeen w nodes branches seen k branch → comes_before (first_coordinate (branch_rows (rows_table nodes) branch)) seen ≡ true
    → last_before seen (flat_rows nodes branches) ≡ last_before seen (branch_rows (rows_table nodes) branch)
last-own w nodes branches seen k branch c before =
    let rows = branch_rows (rows_table nodes) branch in
    let front = flat_rows nodes (take k branches) in
    let rest = flat_rows nodes (drop (k + 1) branches) in
    let whole = parted w nodes branches seen k branch c in
    ap (last_before seen) whole
    ∙ before-back seen front (rows ++ rest) (subst InOrder whole c.well_formed.ordered) (filled-append rows rest c.some) (ap (λ (p : List ℕ). comes_before p seen) (first-append rows rest c.some) ∙ before)
    ∙ before-front seen rows rest (none-past seen rest c.chosen.back)

none-own : {L : Type 0} (w : Widths L) (nodes : List (Shape L)) (branches : List Branch) (seen : List ℕ) (k : ℕ) (branch : Branch) → ChosenSeen w nodes branches seen k branch → comes_before (first_coordinate (branch_rows (rows_table nodes) branch)) seen ≡ false
    → last_before seen (flat_rows nodes branches) ≡ None
none-own {L} w nodes branches seen k branch c past =
    let rows = branch_rows (rows_table nodes) branch in
    let rest = flat_rows nodes (drop (k + 1) branches) in
    let item : drop k branches ≡ branch ∷ drop (k + 1) branches = drop_more branches k branch c.chosen.there ∙ ap (λ (b : Branch). b ∷ drop (k + 1) branches) (sym c.item) in
    let past_here : comes_before (first_coordinate (flat_rows nodes (drop k branches))) seen ≡ false =
    ap (λ (bs : List Branch). comes_before (first_coordinate (flat_rows nodes bs)) seen) item ∙ ap (λ (p : List ℕ). comes_before p seen) (first-append rows rest c.some) ∙ past in
    elim c.here [
      | inl start ↦ ap (last_before seen) (parted w nodes branches seen k branch c ∙ ap (λ (n : ℕ). flat_rows nodes (take n branches) ++ (rows ++ rest)) start) ∙ none-before seen rows rest c.some past
      | inr before ↦ absurd (true_not_false _ before past_here)
    ]
  where
    true_not_false : (t : Bool) → t ≡ true → t ≡ false → ⊥
    true_not_false true e f = cc
    true_not_false false e f = cc

own-end : {L : Type 0} (w : Widths L) (nodes : List (Shape L)) (branches : List Branch) → IsWellFormed w nodes (Branches branches) → All (λ (r : Row L). EndsWell r.first) (flat_rows nodes branches)
own-end w nodes branches well_formed = all-end w (flat_rows nodes branches) well_formed.rows

branch-end : {L : Type 0} (w : Widths L) (nodes : List (Shape L)) (branches : List Branch) (seen : List ℕ) (k : ℕ) (branch : Branch) → ChosenSeen w nodes branches seen k branch → All (λ (r : Row L). EndsWell r.first) (branch_rows (rows_table nodes) branch)
branch-end w nodes branches seen k branch c =
    all-end w (branch_rows (rows_table nodes) branch) (item-well_formed (IsWellFormedPart w nodes) branches k branch c.chosen.there c.item (node-parts w nodes branches c.well_formed)).rows

-- the last row of all is that of the branch that was chosen, where it has a row before the coordinate
pub branch-found : {L : Type 0} (w : Widths L) (nodes : List (Shape L)) (at a b seen : List ℕ) (branches : List Branch) (k : ℕ) (branch : Branch) → IsSeenFrom at a seen → ChosenSeen w nodes branches seen k branch → comes_before (first_coordinate (branch_rows (rows_table nodes) branch)) seen ≡ true
    → last_before at (flat_rows nodes (map (branch_at a b) branches)) ≡ last_before at (branch_rows (rows_table nodes) (branch_at a b branch))
branch-found w nodes at a b seen branches k branch s c before =
    ap (last_before at) (flat-moved nodes a b branches)
    ∙ last-seen at a b seen (flat_rows nodes branches) s (own-end w nodes branches c.well_formed)
    ∙ ap (moved_if a b) (last-own w nodes branches seen k branch c before)
    ∙ sym (last-seen at a b seen (branch_rows (rows_table nodes) branch) s (branch-end w nodes branches seen k branch c))
    ∙ ap (last_before at) (rows-moved_twice a b branch.first branch.second (rows_of nodes branch.node.0))

pub no-branch : {L : Type 0} (w : Widths L) (nodes : List (Shape L)) (at a b seen : List ℕ) (branches : List Branch) (k : ℕ) (branch : Branch) → IsSeenFrom at a seen → ChosenSeen w nodes branches seen k branch → comes_before (first_coordinate (branch_rows (rows_table nodes) branch)) seen ≡ false
    → last_before at (flat_rows nodes (map (branch_at a b) branches)) ≡ None
no-branch w nodes at a b seen branches k branch s c past =
    ap (last_before at) (flat-moved nodes a b branches)
    ∙ last-seen at a b seen (flat_rows nodes branches) s (own-end w nodes branches c.well_formed)
    ∙ ap (moved_if a b) (none-own w nodes branches seen k branch c past)

-- the branch that was chosen is one of those, where it stands
pub one-moved : (a b : List ℕ) (branches : List Branch) (k : ℕ) (branch : Branch) → k < length branches → branch ≡ get_or branches k branch → Contains (map (branch_at a b) branches) (branch_at a b branch)
one-moved a b branches k branch lt item =
    let m = mapped_at (branch_at a b) branches k branch lt item in
    (k, m.short, sym m.at)

-- a branch fits where it is moved to
pub moved-fits : {L : Type 0} (w : Widths L) (nodes : List (Shape L)) (a b : List ℕ) (branches : List Branch) (i : ℕ) (item : Branch) → i < length branches → item ≡ get_or branches i item → All (IsWellFormedPart w nodes) (map (branch_at a b) branches) → IsTumbler (sum a item.first) × IsTumbler (sum b item.second)
moved-fits w nodes a b branches i item lt at parts =
    let m = mapped_at (branch_at a b) branches i item lt at in
    let part = item-well_formed (IsWellFormedPart w nodes) (map (branch_at a b) branches) i (branch_at a b item) m.short m.at parts in
    let first = map (sum (sum a item.first)) (get_or (origins_table (first_axis w) nodes) item.node.0 []) in
    let second = map (sum (sum b item.second)) (get_or (origins_table (second_axis w) nodes) item.node.0 []) in
    (All-head IsTumbler (sum a item.first) first part.first_origins, All-head IsTumbler (sum b item.second) second part.second_origins)
