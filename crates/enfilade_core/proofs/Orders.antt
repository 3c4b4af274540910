-- The order of rows that are joined and moved, and what holds of joined lists.
use Rattle.std.proofs.Common.{◌≢◌, ℕ, List, [], ◌∷◌, ◌++◌, map, refl}
use Rattle.std.specs.List.{All, flat_map}
use Rattle.std.proofs.lemmas.List.Elements.{All-head, All-tail, All-nil, All-cons, All-weaker, All-append}
use Rattle.tumbler.specs.Places.{EndsWell, IsUpTo, sum}
use Rattle.tumbler.proofs.Alls.{All-front, All-back}
use Rattle.tumbler.proofs.Order.{upto_upto, upto_itself}
use Rattle.tumbler.proofs.SumOrder.{sums_up_to}
use Rattle.enfilade_core.specs.declared.tree.Row.{Row}
use Rattle.enfilade_core.specs.Rows.{moved}
use Rattle.enfilade_core.specs.Axes.{InOrder}
use Rattle.enfilade_core.proofs.Tells.{first_coordinate, last_coordinate}

-- ---- lists of lists

pub All-flat : {X Y : Type 0} (P : Y → Type 0) (f : X → List Y) (xs : List X) → All (λ x. All P (f x)) xs → All P (flat_map f xs)
All-flat P f [] h = All-nil P
All-flat P f (x ∷ xs) h =
    All-append P (f x) (flat_map f xs) (All-head (λ x. All P (f x)) x xs h) (All-flat P f xs (All-tail (λ x. All P (f x)) x xs h))

pub All-unflat : {X Y : Type 0} (P : Y → Type 0) (f : X → List Y) (xs : List X) → All P (flat_map f xs) → All (λ x. All P (f x)) xs
All-unflat P f [] h = All-nil (λ x. All P (f x))
All-unflat P f (x ∷ xs) h = All-cons (λ x. All P (f x)) x xs (All-front P (f x) (flat_map f xs) h) (All-unflat P f xs (All-back P (f x) (flat_map f xs) h))

-- ---- first and last

-- what holds of all rows holds of the last one
pub up_to_last : {L : Type 0} (row : Row L) (rows : List (Row L)) → InOrder (row ∷ rows) → IsUpTo row.first (last_coordinate (row ∷ rows))
up_to_last row [] h = upto_itself row.first
up_to_last row (next ∷ rows) h =
    upto_upto row.first next.first (last_coordinate (next ∷ rows)) (All-head (λ r. IsUpTo row.first r.first) next rows h.0) (up_to_last next rows h.1)

-- all rows are at or past the first one
pub past_first : {L : Type 0} (coordinate : List ℕ) (rows : List (Row L)) → InOrder rows → (rows ≢ [] → IsUpTo coordinate (first_coordinate rows)) → All (λ r. IsUpTo coordinate r.first) rows
past_first coordinate [] h le = All-nil (λ r. IsUpTo coordinate r.first)
past_first coordinate (row ∷ rows) h le =
    let first : IsUpTo coordinate row.first = le (λ q. cc) in
    All-cons (λ r. IsUpTo coordinate r.first) row rows first
    (All-weaker (λ r. IsUpTo row.first r.first) (λ r. IsUpTo coordinate r.first) (λ r k. upto_upto coordinate row.first r.first first k) rows h.0)

pub InOrder-append : {L : Type 0} (rows more : List (Row L)) → InOrder rows → InOrder more → (rows ≢ [] → more ≢ [] → IsUpTo (last_coordinate rows) (first_coordinate more)) → InOrder (rows ++ more)
InOrder-append [] more h k le = k
InOrder-append (row ∷ []) more h k le = (past_first row.first more k (λ some. le (λ q. cc) some), k)
InOrder-append {L} (row ∷ next ∷ rows) more h k le =
    let P : Row L → Type 0 = λ r. IsUpTo row.first r.first in (
      All-append P (next ∷ rows) more h.0
          (past_first row.first more k (λ some. upto_upto row.first (last_coordinate (next ∷ rows)) (first_coordinate more) (up_to_last row (next ∷ rows) h) (le (λ q. cc) some))),
      InOrder-append (next ∷ rows) more h.1 k (λ a some. le (λ q. cc) some),
    )

pub InOrder-front : {L : Type 0} (rows more : List (Row L)) → InOrder (rows ++ more) → InOrder rows
InOrder-front [] more h = tt
InOrder-front (row ∷ rows) more h = (All-front (λ r. IsUpTo row.first r.first) rows more h.0, InOrder-front rows more h.1)

pub InOrder-back : {L : Type 0} (rows more : List (Row L)) → InOrder (rows ++ more) → InOrder more
InOrder-back [] more h = h
InOrder-back (row ∷ rows) more h = InOrder-back rows more h.1

pub InOrder-seam : {L : Type 0} (rows more : List (Row L)) → InOrder (rows ++ more) → rows ≢ [] → more ≢ [] → IsUpTo (last_coordinate rows) (first_coordinate more)
InOrder-seam [] more h some also = absurd (some refl)
InOrder-seam (row ∷ []) [] h some also = absurd (also refl)
InOrder-seam (row ∷ []) (next ∷ more) h some also = All-head (λ r. IsUpTo row.first r.first) next more h.0
InOrder-seam (row ∷ next ∷ rows) more h some also = InOrder-seam (next ∷ rows) more h.1 (λ q. cc) also

-- rows stay in order where all are moved
later_moved : {L : Type 0} (a b coordinate : List ℕ) (rows : List (Row L)) → All (λ r. EndsWell r.first) rows → All (λ r. IsUpTo coordinate r.first) rows → All (λ r. IsUpTo (sum a coordinate) r.first) (map (moved a b) rows)
later_moved a b coordinate [] e h = All-nil (λ r. IsUpTo (sum a coordinate) r.first)
later_moved a b coordinate (next ∷ rows) e h =
    All-cons (λ r. IsUpTo (sum a coordinate) r.first) (moved a b next) (map (moved a b) rows)
    (sums_up_to a coordinate next.first (All-head (λ r. EndsWell r.first) next rows e) (All-head (λ r. IsUpTo coordinate r.first) next rows h))
    (later_moved a b coordinate rows (All-tail (λ r. EndsWell r.first) next rows e) (All-tail (λ r. IsUpTo coordinate r.first) next rows h))

pub InOrder-moved : {L : Type 0} (a b : List ℕ) (rows : List (Row L)) → All (λ r. EndsWell r.first) rows → InOrder rows → InOrder (map (moved a b) rows)
InOrder-moved a b [] e h = tt
InOrder-moved a b (row ∷ rows) e h =
    let rest = All-tail (λ r. EndsWell r.first) row rows e in
    (later_moved a b row.first rows rest h.0, InOrder-moved a b rows rest h.1)
