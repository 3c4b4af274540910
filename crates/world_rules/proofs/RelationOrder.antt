-- The order of pairs and of diagonals.
use Rattle.std.proofs.Common.{ℕ, suc, ◌<◌, ◌∷◌, [], Bool, List, sym, refl, subst, arith, All, get_or, inl, inr}
use Rattle.std.specs.Prelude.{filter}
use Rattle.std.specs.List.{AllPairs, flat_map, list_any}
use Rattle.std.proofs.lemmas.List.Elements.{All-nil, All-append, All-map}
use Rattle.std.proofs.lemmas.List.Kept.{AllPairs-filter}
use Rattle.tumbler.specs.declared.span.Span.{Span}
use Rattle.febe_data.specs.Plain.{PlainSpec}
use Rattle.world_rules.specs.declared.pairs.Pair.{Pair}
use Rattle.world_rules.specs.declared.rows.Row.{Row}
use Rattle.world_rules.specs.World.{World, is_same, is_text_of}
use Rattle.world_rules.specs.Picking.{picks, picked_once}
use Rattle.world_rules.specs.Relation.{is_start, diagonal_from, pairs_of_row, pairs_of}
use Rattle.world_rules.specs.RelationLaws.{IsPairBefore, IsDiagonalBefore, TextAscends, PairsInOrder, DiagonalsInOrder}
use Rattle.world_rules.proofs.Later.{none_later, after_first, without_first, pairs_append, pairs_map}
use Rattle.world_rules.proofs.ListTests.{filter_both}

-- ---- flattened lists

all_flat : {X Y : Type 0} (P : Y → Type 0) (f : X → List Y) (xs : List X) → All (λ x. All P (f x)) xs → All P (flat_map f xs)
all_flat P f [] each = All-nil P
all_flat P f (x ∷ xs) each = All-append P (f x) (flat_map f xs) (each 0 x (omega arith)) (all_flat P f xs (λ k d within. each (suc k) d (omega arith)))

-- ---- rows that ascend

abbrev pub IsRowBefore : Row → Row → Type 0
IsRowBefore row later = row.n < later.n

picked_ascend : (world : World) (spec : PlainSpec) → TextAscends world spec.document → AllPairs IsRowBefore (picked_once world spec)
picked_ascend world spec ascends =
    let picked : Row → Bool = λ row. list_any (λ (span : Span). picks span row) spec.spans in
    subst (AllPairs IsRowBefore) (sym (filter_both (is_text_of spec.document) picked world.rows)) (AllPairs-filter IsRowBefore picked (filter (is_text_of spec.document) world.rows) ascends)

-- ---- pairs

abbrev pair_of : Row → Row → Pair
pair_of row other = record { left = row.n; right = other.n }

row_ordered : (others : List Row) (row : Row) → AllPairs IsRowBefore others → AllPairs IsPairBefore (pairs_of_row others row)
row_ordered others row ascend =
    pairs_map IsRowBefore IsPairBefore (pair_of row) (λ a b lt. inr (refl, lt)) (filter (λ (other : Row). is_same other.address row.address) others) (AllPairs-filter IsRowBefore (λ (other : Row). is_same other.address row.address) others ascend)

-- the pairs of rows further on are further on
rows_later : (others rows : List Row) (n : ℕ) → All (λ (row : Row). n < row.n) rows → All (λ (pair : Pair). n < pair.left) (flat_map (pairs_of_row others) rows)
rows_later others rows n later =
    all_flat (λ (pair : Pair). n < pair.left) (pairs_of_row others) rows
    (λ k d within. All-map (λ (pair : Pair). n < pair.left) (pair_of (get_or rows k d)) (filter (λ (other : Row). is_same other.address (get_or rows k d).address) others) (λ j e inside. later k d within))

rows_ordered : (others rows : List Row) → AllPairs IsRowBefore others → AllPairs IsRowBefore rows → AllPairs IsPairBefore (flat_map (pairs_of_row others) rows)
rows_ordered others [] ascend each = none_later IsPairBefore
rows_ordered others (row ∷ rows) ascend each =
    pairs_append IsPairBefore (pairs_of_row others row) (flat_map (pairs_of_row others) rows) (row_ordered others row ascend) (rows_ordered others rows ascend (without_first IsRowBefore row rows each))
    (All-map (λ (pair : Pair). All (IsPairBefore pair) (flat_map (pairs_of_row others) rows)) (pair_of row) (filter (λ (other : Row). is_same other.address row.address) others)
    (λ j e inside k d within. inl (rows_later others rows row.n (after_first IsRowBefore row rows each) k d within)))

pub pairs_ordered : PairsInOrder
pairs_ordered world left right ascend_left ascend_right = rows_ordered (picked_once world right) (picked_once world left) (picked_ascend world right ascend_right) (picked_ascend world left ascend_left)

-- ---- diagonals

pub diagonals_ordered : DiagonalsInOrder
diagonals_ordered world left right ascend_left ascend_right =
    pairs_map IsPairBefore IsDiagonalBefore (diagonal_from (pairs_of world left right)) (λ a b before. before) (filter (is_start (pairs_of world left right)) (pairs_of world left right))
    (AllPairs-filter IsPairBefore (is_start (pairs_of world left right)) (pairs_of world left right) (pairs_ordered world left right ascend_left ascend_right))
