-- No origin below a node comes after the last row of the node.
use Rattle.std.proofs.Common.{◌≢◌, ℕ, zero, suc, ◌+◌, ◌<◌, List, [], ◌∷◌, ◌++◌, length, get_or, map, refl, arith, sym, subst, append-nil}
use Rattle.std.specs.List.{All, flat_map}
use Rattle.std.proofs.lemmas.List.Elements.{All-head, All-tail, All-nil, All-cons, All-weaker, All-append}
use Rattle.tumbler.specs.Places.{EndsWell, IsTumbler, IsUpTo, sum}
use Rattle.tumbler.proofs.Order.{upto_itself, upto_upto}
use Rattle.tumbler.proofs.Sums.{sum-upto}
use Rattle.tumbler.proofs.SumOrder.{sums_up_to}
use Rattle.enfilade_core.specs.declared.tree.Row.{Row}
use Rattle.enfilade_core.specs.declared.tree.Branch.{Branch}
use Rattle.enfilade_core.specs.Rows.{Shape, Rows, Branches, moved, branch_rows, rows_in, rows_table, rows_of, node_at}
use Rattle.enfilade_core.specs.Axes.{Widths, first_axis, InOrder, IsWellFormedRow}
use Rattle.enfilade_core.specs.WellFormed.{NamesBelow, branch_origins, origins_in, origins_table, IsWellFormedBranch, HasWellFormedBranches, AreWellFormed}
use Rattle.enfilade_core.specs.Following.{last_coordinate}
use Rattle.enfilade_core.proofs.Parts.{rows-said, origins-said, well_formed-now, rows-well_formed, names_below}
use Rattle.enfilade_core.proofs.Tells.{last_coordinate-append, last_coordinate-moved}
use Rattle.enfilade_core.proofs.Orders.{up_to_last, InOrder-back, InOrder-seam}

-- origins of which none comes after a coordinate
abbrev pub AreUpTo : List ℕ → List (List ℕ) → Type 0
AreUpTo last origins = All (λ o. IsUpTo o last) origins

pub last-well_formed : {L : Type 0} (w : Widths L) (rows : List (Row L)) → rows ≢ [] → All (IsWellFormedRow w) rows → IsTumbler (last_coordinate rows)
last-well_formed w [] some well_formed = absurd (some refl)
last-well_formed w (row ∷ []) some well_formed = (All-head (IsWellFormedRow w) row [] well_formed).first_coordinate
last-well_formed w (row ∷ next ∷ rows) some well_formed = last-well_formed w (next ∷ rows) (λ q. cc) (All-tail (IsWellFormedRow w) row (next ∷ rows) well_formed)

-- ---- one branch

all_moved : (a last : List ℕ) (origins : List (List ℕ)) → EndsWell last → AreUpTo last origins → AreUpTo (sum a last) (map (sum a) origins)
all_moved a last [] ends h = All-nil (λ o. IsUpTo o (sum a last))
all_moved a last (o ∷ origins) ends h =
    All-cons (λ p. IsUpTo p (sum a last)) (sum a o) (map (sum a) origins) (sums_up_to a o last ends (All-head (λ p. IsUpTo p last) o origins h))
    (all_moved a last origins ends (All-tail (λ p. IsUpTo p last) o origins h))

branch-up_to : {L : Type 0} (w : Widths L) (a b : List ℕ) (rows : List (Row L)) (origins : List (List ℕ)) → rows ≢ [] → All (IsWellFormedRow w) rows → AreUpTo (last_coordinate rows) origins → AreUpTo (last_coordinate (map (moved a b) rows)) (a ∷ map (sum a) origins)
branch-up_to w a b rows origins some well_formed h =
    let last = last_coordinate rows in
    let ends = (last-well_formed w rows some well_formed).ends in
    subst (λ (coordinate : List ℕ). AreUpTo coordinate (a ∷ map (sum a) origins)) (sym (last_coordinate-moved a b rows some))
    (All-cons (λ o. IsUpTo o (sum a last)) a (map (sum a) origins) (sum-upto a last ends) (all_moved a last origins ends h))

-- ---- branches in order

last-front : {L : Type 0} (rows more : List (Row L)) → InOrder (rows ++ more) → rows ≢ [] → IsUpTo (last_coordinate rows) (last_coordinate (rows ++ more))
last-front rows [] ordered some = rw (append-nil rows) (upto_itself (last_coordinate rows))
last-front rows (row ∷ more) ordered some =
    let seam = InOrder-seam rows (row ∷ more) ordered some (λ q. cc) in
    subst (IsUpTo (last_coordinate rows)) (sym (last_coordinate-append rows (row ∷ more) (λ q. cc)))
    (upto_upto (last_coordinate rows) row.first (last_coordinate (row ∷ more)) seam (up_to_last row more (InOrder-back rows (row ∷ more) ordered)))

filled-front : {L : Type 0} (rows more : List (Row L)) → rows ≢ [] → rows ++ more ≢ []
filled-front [] more some e = some refl
filled-front (row ∷ rows) more some e = cc

branches-up_to : {L : Type 0} (origins : Branch → List (List ℕ)) (rows : Branch → List (Row L)) (branches : List Branch) → InOrder (flat_map rows branches) → All (λ b. rows b ≢ []) branches → All (λ b. AreUpTo (last_coordinate (rows b)) (origins b)) branches
    → AreUpTo (last_coordinate (flat_map rows branches)) (flat_map origins branches)
branches-up_to origins rows [] ordered some each = All-nil (λ o. IsUpTo o [])
branches-up_to origins rows (branch ∷ branches) ordered some each =
    let more = flat_map rows branches in
    let whole = last_coordinate (rows branch ++ more) in
    let filled = All-head (λ b. rows b ≢ []) branch branches some in
    All-append (λ o. IsUpTo o whole) (origins branch) (flat_map origins branches)
    (All-weaker (λ o. IsUpTo o (last_coordinate (rows branch))) (λ o. IsUpTo o whole) (λ o le. upto_upto o (last_coordinate (rows branch)) whole le (last-front (rows branch) more ordered filled)) (origins branch)
    (All-head (λ b. AreUpTo (last_coordinate (rows b)) (origins b)) branch branches each))
    (behind origins rows (rows branch) branches (All-tail (λ b. rows b ≢ []) branch branches some)
    (branches-up_to origins rows branches (InOrder-back (rows branch) more ordered) (All-tail (λ b. rows b ≢ []) branch branches some) (All-tail (λ b. AreUpTo (last_coordinate (rows b)) (origins b)) branch branches each)))
  where
    behind : {L : Type 0} (origins : Branch → List (List ℕ)) (rows : Branch → List (Row L)) (front : List (Row L)) (branches : List Branch) → All (λ b. rows b ≢ []) branches → AreUpTo (last_coordinate (flat_map rows branches)) (flat_map origins branches)
        → AreUpTo (last_coordinate (front ++ flat_map rows branches)) (flat_map origins branches)
    behind origins rows front [] some h = All-nil (λ o. IsUpTo o (last_coordinate (front ++ [])))
    behind origins rows front (branch ∷ branches) some h =
        let more = flat_map rows (branch ∷ branches) in
        subst (λ (coordinate : List ℕ). AreUpTo coordinate (flat_map origins (branch ∷ branches)))
        (sym (last_coordinate-append front more (filled-front (rows branch) (flat_map rows branches) (All-head (λ b. rows b ≢ []) branch branches some)))) h

-- ---- nodes

-- what is known of the nodes below a number
abbrev pub BelowUpTo : {L : Type 0} → Widths L → List (Shape L) → ℕ → Type 0
BelowUpTo w nodes k = (m : ℕ) → m < k → m < length nodes → AreUpTo (last_coordinate (rows_of nodes m)) (get_or (origins_table (first_axis w) nodes) m [])

map_filled : {A B : Type 0} (f : A → B) (xs : List A) → xs ≢ [] → map f xs ≢ []
map_filled f [] n q = n refl
map_filled f (x ∷ xs) n q = cc

all_filled : {L : Type 0} (w : Widths L) (nodes : List (Shape L)) (branches : List Branch) → All (IsWellFormedBranch w nodes) branches → All (λ b. branch_rows (rows_table nodes) b ≢ []) branches
all_filled w nodes branches well_formed =
    All-weaker (IsWellFormedBranch w nodes) (λ b. branch_rows (rows_table nodes) b ≢ []) (λ b is. map_filled (moved b.first b.second) (rows_of nodes b.node.0) is.filled) branches well_formed

all_up_to : {L : Type 0} (w : Widths L) (nodes : List (Shape L)) → AreWellFormed w nodes → (k : ℕ) → BelowUpTo w nodes k → (branches : List Branch) → All (λ b. b.node.0 < k) branches → All (IsWellFormedBranch w nodes) branches
    → All (λ b. AreUpTo (last_coordinate (branch_rows (rows_table nodes) b)) (branch_origins (first_axis w) (origins_table (first_axis w) nodes) b)) branches
all_up_to w nodes well_formed k below [] named is = All-nil (λ b. AreUpTo (last_coordinate (branch_rows (rows_table nodes) b)) (branch_origins (first_axis w) (origins_table (first_axis w) nodes) b))
all_up_to w nodes well_formed k below (branch ∷ branches) named is =
    let b = All-head (IsWellFormedBranch w nodes) branch branches is in
    All-cons (λ b. AreUpTo (last_coordinate (branch_rows (rows_table nodes) b)) (branch_origins (first_axis w) (origins_table (first_axis w) nodes) b)) branch branches
    (branch-up_to w branch.first branch.second (rows_of nodes branch.node.0) (get_or (origins_table (first_axis w) nodes) branch.node.0 []) b.filled (rows-well_formed w nodes branch.node.0 well_formed b.below)
    (below branch.node.0 (All-head (λ x. x.node.0 < k) branch branches named) b.below))
    (all_up_to w nodes well_formed k below branches (All-tail (λ x. x.node.0 < k) branch branches named) (All-tail (IsWellFormedBranch w nodes) branch branches is))

node-up_to : {L : Type 0} (w : Widths L) (nodes : List (Shape L)) → AreWellFormed w nodes → (k : ℕ) → BelowUpTo w nodes k → (node : Shape L) → NamesBelow k node → HasWellFormedBranches w nodes node → InOrder (rows_in (rows_table nodes) node)
    → AreUpTo (last_coordinate (rows_in (rows_table nodes) node)) (origins_in (first_axis w) (origins_table (first_axis w) nodes) node)
node-up_to w nodes well_formed k below (Rows rows) named is ordered = All-nil (λ o. IsUpTo o (last_coordinate rows))
node-up_to w nodes well_formed k below (Branches branches) named is ordered =
    branches-up_to (branch_origins (first_axis w) (origins_table (first_axis w) nodes)) (branch_rows (rows_table nodes)) branches ordered (all_filled w nodes branches is.each)
    (all_up_to w nodes well_formed k below branches named is.each)

up_to_all : {L : Type 0} (w : Widths L) (nodes : List (Shape L)) → AreWellFormed w nodes → (n k : ℕ) → k < n → k < length nodes → AreUpTo (last_coordinate (rows_of nodes k)) (get_or (origins_table (first_axis w) nodes) k [])
up_to_all w nodes well_formed zero k below lt = absurd (omega arith)
up_to_all {L} w nodes well_formed (suc n) k below lt =
    let node = node_at nodes k in
    let now = well_formed-now w nodes k well_formed lt in
    let whole = node-up_to w nodes well_formed k (λ m lower within. up_to_all w nodes well_formed n m (omega arith) within) node (names_below w nodes k well_formed lt) now.branches now.ordered in
    subst (λ (os : List (List ℕ)). AreUpTo (last_coordinate (rows_of nodes k)) os) (sym (origins-said w (first_axis w) nodes k well_formed lt))
    (subst (λ (rs : List (Row L)). AreUpTo (last_coordinate rs) (origins_in (first_axis w) (origins_table (first_axis w) nodes) node)) (sym (rows-said w nodes k well_formed lt)) whole)

pub origins-up_to : {L : Type 0} (w : Widths L) (nodes : List (Shape L)) → AreWellFormed w nodes → (k : ℕ) → k < length nodes → AreUpTo (last_coordinate (rows_of nodes k)) (get_or (origins_table (first_axis w) nodes) k [])
origins-up_to w nodes well_formed k lt = up_to_all w nodes well_formed (k + 1) k (omega arith) lt
