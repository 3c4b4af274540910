-- Where a search stops, nothing behind is sought: the rows are in order on the first axis.
use Rattle.std.proofs.Common.{◌≡◌, ◌≢◌, ℕ, ◌+◌, ◌<◌, Bool, true, false, not, cond, List, [], ◌∷◌, ◌++◌, length, get_or, take, drop, map, refl, ap, ◌∙◌, sym, subst, append-nil}
use Rattle.std.specs.List.{All, filter, flat_map}
use Rattle.std.proofs.lemmas.Bool.{not-true, not-false, false_from_ne_true}
use Rattle.std.proofs.lemmas.List.{take-append-drop, take-map}
use Rattle.std.proofs.lemmas.List.Elements.{All-head, All-tail, filter-append}
use Rattle.std.proofs.lemmas.Grind.{flat_map-append}
use Rattle.tumbler.specs.Places.{IsBefore, IsUpTo, comes_before, sum}
use Rattle.tumbler.proofs.Alls.{All-back, All-one}
use Rattle.tumbler.proofs.Order.{upto_before, upto_upto, upto_itself, never_before_itself}
use Rattle.tumbler.proofs.Before.{up_to_if_false}
use Rattle.tumbler.proofs.Sums.{sum-upto}
use Rattle.enfilade_core.specs.declared.tree.Row.{Row}
use Rattle.enfilade_core.specs.declared.tree.Branch.{Branch}
use Rattle.enfilade_core.specs.Rows.{Shape, moved, rows_of}
use Rattle.enfilade_core.specs.Axes.{Widths, InOrder, IsWellFormedRow}
use Rattle.enfilade_core.specs.WellFormed.{IsWellFormedBranch, AreWellFormed}
use Rattle.enfilade_core.specs.Laws.{rows_from}
use Rattle.enfilade_core.specs.Plain.{plain_row}
use Rattle.enfilade_core.proofs.Tells.{first_coordinate}
use Rattle.enfilade_core.proofs.Orders.{past_first, InOrder-back}
use Rattle.enfilade_core.proofs.Parts.{rows-well_formed}
use Rattle.enfilade_core.proofs.GoneThrough.{around, mapped_at}
use Rattle.enfilade_search.specs.declared.sought.By.{By}
use Rattle.enfilade_search.specs.declared.sought.By.TheVariants.{Place, First, Second}
use Rattle.enfilade_search.specs.declared.sought.Sought.{Sought}
use Rattle.enfilade_search.specs.Sought.{side_by, is_sought, past_by, is_past, FitsAt, ChildFits}
use Rattle.enfilade_search.proofs.Skipping.{sought_ends}
use Rattle.enfilade_search.proofs.Children.{child_rows, ordered_from}

-- ---- what is past

-- where a search is past a coordinate, it is one by the first axis, and its range ends at the coordinate or before it
past_is : (by : By) (to first second : List ℕ) (at : List ℕ) → past_by by to at ≡ true → (side_by by first second ≡ first) × IsUpTo to at
past_is Place to first second at e = (refl, up_to_if_false at to (not-true (comes_before at to) e))
past_is First to first second at e = (refl, up_to_if_false at to (not-true (comes_before at to) e))
past_is Second to first second at e = cc

past_not_sought : {L : Type 0} (w : Widths L) (sought : Sought) (at : List ℕ) (row : Row L) → is_past sought at ≡ true → IsWellFormedRow w row → IsUpTo at row.first → is_sought w sought row ≡ false
past_not_sought w sought at row past well_formed le = false_from_ne_true (is_sought w sought row) (λ is.
    let p = past_is sought.by sought.to row.first row.second at past in
    let lt : IsBefore row.first sought.to = subst (λ (x : List ℕ). IsBefore x sought.to) p.0 (sought_ends w sought.by sought.from sought.to row well_formed is).0 in
    never_before_itself sought.to (upto_before sought.to row.first sought.to (upto_upto sought.to at row.first p.1 le) lt))

pub none_past : {L : Type 0} (w : Widths L) (sought : Sought) (at : List ℕ) → is_past sought at ≡ true → (rows : List (Row L)) → All (IsWellFormedRow w) rows → All (λ r. IsUpTo at r.first) rows → filter (is_sought w sought) rows ≡ []
none_past w sought at past [] well_formed le = refl
none_past w sought at past (row ∷ rows) well_formed le =
    let test = is_sought w sought in
    ap (λ t. cond t (row ∷ filter test rows) (filter test rows)) (past_not_sought w sought at row past (All-head (IsWellFormedRow w) row rows well_formed) (All-head (λ r. IsUpTo at r.first) row rows le))
    ∙ none_past w sought at past rows (All-tail (IsWellFormedRow w) row rows well_formed) (All-tail (λ r. IsUpTo at r.first) row rows le)

-- ---- the rest of rows that begin past a coordinate

rest_not_sought : {L : Type 0} (w : Widths L) (sought : Sought) (at : List ℕ) (front rest : List (Row L)) → is_past sought at ≡ true → All (IsWellFormedRow w) (front ++ rest) → All (λ r. IsUpTo at r.first) rest
    → filter (is_sought w sought) (front ++ rest) ≡ filter (is_sought w sought) front
rest_not_sought w sought at front rest past well_formed le =
    let test = is_sought w sought in
    filter-append test front rest ∙ ap (λ (r : List (Row _)). filter test front ++ r) (none_past w sought at past rest (All-back (IsWellFormedRow w) front rest well_formed) le) ∙ append-nil (filter test front)

-- what stands behind rows that begin at a coordinate or past it does so too
behind : {L : Type 0} (at : List ℕ) (front here back : List (Row L)) → InOrder (front ++ (here ++ back)) → here ≢ [] → IsUpTo at (first_coordinate here) → All (λ r. IsUpTo at r.first) back
behind at front [] back ordered some le = absurd (some refl)
behind at front (row ∷ here) back ordered some le =
    let rest = InOrder-back front ((row ∷ here) ++ back) ordered in
    All-back (λ r. IsUpTo at r.first) (row ∷ here) back (past_first at ((row ∷ here) ++ back) rest (λ _. le))

-- ---- in a bottom node

pub rows_stop : {L : Type 0} (w : Widths L) (sought : Sought) (at : List ℕ) (rows : List (Row L)) (i : ℕ) (row : Row L) → is_past sought at ≡ true → All (IsWellFormedRow w) rows → InOrder rows → i < length rows → row ≡ get_or rows i row → IsUpTo at row.first
    → filter (is_sought w sought) rows ≡ filter (is_sought w sought) (take (i + 1) rows)
rows_stop w sought at rows i row past well_formed ordered lt is le =
    let whole = sym (take-append-drop (i + 1) rows) in
    ap (filter (is_sought w sought)) whole
    ∙ rest_not_sought w sought at (take (i + 1) rows) (drop (i + 1) rows) past (subst (All (IsWellFormedRow w)) whole well_formed)
    (behind at (take i rows) (row ∷ []) (drop (i + 1) rows) (subst InOrder (around rows i row lt is) ordered) (λ q. cc) le)

-- with the rows as the code has them
pub held_rows_stop : {L : Type 0} (w : Widths L) (plain : L → L) (sought : Sought) (a b : List ℕ) (rows : List (Row L)) (i : ℕ) (row : Row L) (more : Bool) (held now : List (Row L)) → All (IsWellFormedRow w) (map (moved a b) (map (plain_row plain) rows))
    → InOrder (map (moved a b) (map (plain_row plain) rows)) → i < length rows → row ≡ get_or rows i row → more ≡ not (is_past sought (sum a row.first)) → more ≡ false
    → now ≡ held ++ filter (is_sought w sought) (map (moved a b) (map (plain_row plain) (take (i + 1) rows))) → now ≡ held ++ filter (is_sought w sought) (map (moved a b) (map (plain_row plain) rows))
held_rows_stop w plain sought a b rows i row more held now well_formed ordered lt is goes_on stops so_far =
    let at = sum a row.first in
    let placed = map (moved a b) (map (plain_row plain) rows) in
    let once = mapped_at (plain_row plain) rows i row lt is in
    let twice = mapped_at (moved a b) (map (plain_row plain) rows) i (plain_row plain row) once.short once.at in
    let front : take (i + 1) placed ≡ map (moved a b) (map (plain_row plain) (take (i + 1) rows)) = take-map (moved a b) (i + 1) (map (plain_row plain) rows) ∙ ap (map (moved a b)) (take-map (plain_row plain) (i + 1) rows) in
    so_far
    ∙ ap (λ (r : List (Row _)). held ++ filter (is_sought w sought) r) (sym front)
    ∙ ap (λ (r : List (Row _)). held ++ r) (sym (rows_stop w sought at placed i (moved a b (plain_row plain row)) (not-false (is_past sought at) (sym goes_on ∙ stops)) well_formed ordered twice.short twice.at (upto_itself at)))

-- ---- in an inner node

pub children_stop : {L A : Type 0} (w : Widths L) (sought : Sought) (at : List ℕ) (items_of : A → List (Row L)) (items : List A) (i : ℕ) (item : A) → is_past sought at ≡ true → All (IsWellFormedRow w) (flat_map items_of items) → InOrder (flat_map items_of items)
    → i < length items → item ≡ get_or items i item → items_of item ≢ [] → IsUpTo at (first_coordinate (items_of item))
    → filter (is_sought w sought) (flat_map items_of items) ≡ filter (is_sought w sought) (flat_map items_of (take (i + 1) items))
children_stop w sought at items_of items i item past well_formed ordered lt is some le =
    let whole = ap (flat_map items_of) (sym (take-append-drop (i + 1) items)) ∙ flat_map-append items_of (take (i + 1) items) (drop (i + 1) items) in
    let split = ap (flat_map items_of) (around items i item lt is) ∙ flat_map-append items_of (take i items) (item ∷ drop (i + 1) items) in
    ap (filter (is_sought w sought)) whole
    ∙ rest_not_sought w sought at (flat_map items_of (take (i + 1) items)) (flat_map items_of (drop (i + 1) items)) past (subst (All (IsWellFormedRow w)) whole well_formed)
    (behind at (flat_map items_of (take i items)) (items_of item) (flat_map items_of (drop (i + 1) items)) (subst InOrder split ordered) some le)

-- the first row of a node is at its origin or past it
origin_up_to_first : {L : Type 0} (w : Widths L) (a b : List ℕ) (rows : List (Row L)) → All (IsWellFormedRow w) rows → rows ≢ [] → IsUpTo a (first_coordinate (map (moved a b) rows))
origin_up_to_first w a b [] well_formed some = absurd (some refl)
origin_up_to_first w a b (row ∷ rows) well_formed some = sum-upto a row.first (All-head (IsWellFormedRow w) row rows well_formed).first_coordinate.ends

map-some : {A B : Type 0} (f : A → B) (xs : List A) → xs ≢ [] → map f xs ≢ []
map-some f [] some q = some refl
map-some f (x ∷ xs) some q = cc

pub held_children_stop : {L : Type 0} (w : Widths L) (nodes : List (Shape L)) (sought : Sought) (k : ℕ) (a b : List ℕ) (children : List Branch) (i : ℕ) (child : Branch) (more : Bool) (held now : List (Row L)) → AreWellFormed w nodes → FitsAt w nodes k a b
    → rows_from nodes k a b ≡ flat_map (child_rows nodes a b) children → IsWellFormedBranch w nodes child → i < length children → child ≡ get_or children i child → more ≡ not (is_past sought (sum a child.first)) → more ≡ false
    → now ≡ held ++ filter (is_sought w sought) (flat_map (child_rows nodes a b) (take (i + 1) children)) → now ≡ held ++ filter (is_sought w sought) (rows_from nodes k a b)
held_children_stop w nodes sought k a b children i child more held now well_formed fits rows branch lt is goes_on stops so_far =
    let at = sum a child.first in
    let own = rows-well_formed w nodes child.node.0 well_formed branch.below in
    so_far
    ∙ ap (λ (r : List (Row _)). held ++ r) (sym (
    children_stop w sought at (child_rows nodes a b) children i child (not-false (is_past sought at) (sym goes_on ∙ stops)) (subst (All (IsWellFormedRow w)) rows fits.rows) (subst InOrder rows (ordered_from w nodes k a b well_formed fits.there)) lt is
    (map-some (moved at (sum b child.second)) (rows_of nodes child.node.0) branch.filled) (origin_up_to_first w at (sum b child.second) (rows_of nodes child.node.0) own branch.filled)))
    ∙ ap (λ (r : List (Row _)). held ++ filter (is_sought w sought) r) (sym rows)

-- ---- one row or child that is past

pub row_past : {L : Type 0} (w : Widths L) (sought : Sought) (a b first : List ℕ) (row : Row L) (past : Bool) (held : List (Row L)) → IsWellFormedRow w (moved a b row) → first ≡ sum a row.first → past ≡ is_past sought first → past ≡ true
    → held ≡ held ++ filter (is_sought w sought) (moved a b row ∷ [])
row_past w sought a b first row past held well_formed f is yes_past =
    let there : is_past sought (sum a row.first) ≡ true = ap (is_past sought) (sym f) ∙ sym is ∙ yes_past in
    let none = none_past w sought (sum a row.first) there (moved a b row ∷ []) (All-one (IsWellFormedRow w) (moved a b row) well_formed) (All-one (λ r. IsUpTo (sum a row.first) r.first) (moved a b row) (upto_itself (sum a row.first))) in
    sym (ap (λ (r : List (Row _)). held ++ r) none ∙ append-nil held)

pub child_past : {L : Type 0} (w : Widths L) (nodes : List (Shape L)) (sought : Sought) (child : Branch) (a b first : List ℕ) (past : Bool) (held : List (Row L)) → AreWellFormed w nodes → ChildFits w nodes child a b → first ≡ sum a child.first → past ≡ is_past sought first → past ≡ true
    → held ≡ held ++ filter (is_sought w sought) (rows_from nodes child.node.0 (sum a child.first) (sum b child.second))
child_past w nodes sought child a b first past held well_formed fits f is yes_past =
    let at = sum a child.first in
    let rows = rows_from nodes child.node.0 at (sum b child.second) in
    let there : is_past sought at ≡ true = ap (is_past sought) (sym f) ∙ sym is ∙ yes_past in
    let own = rows-well_formed w nodes child.node.0 well_formed fits.branch.below in
    let le = past_first at rows (ordered_from w nodes child.node.0 at (sum b child.second) well_formed fits.branch.below) (λ _. origin_up_to_first w at (sum b child.second) (rows_of nodes child.node.0) own fits.branch.filled) in
    sym (ap (λ (r : List (Row _)). held ++ r) (none_past w sought at there rows fits.below.rows le) ∙ append-nil held)

-- what a search answers of going on
pub goes_on : (sought : Sought) (first at : List ℕ) (past : Bool) → first ≡ at → past ≡ is_past sought first → past ≡ false → true ≡ not (is_past sought at)
goes_on sought first at past f is not_past = sym (ap not (ap (is_past sought) (sym f) ∙ sym is ∙ not_past))

pub stops : (sought : Sought) (first at : List ℕ) (past : Bool) → first ≡ at → past ≡ is_past sought first → past ≡ true → false ≡ not (is_past sought at)
stops sought first at past f is is_there = sym (ap not (ap (is_past sought) (sym f) ∙ sym is ∙ is_there))
