-- Rows whose places follow each other without gaps.
use Rattle.std.proofs.Common.{◌≡◌, ℕ, zero, suc, ◌+◌, ◌-◌, ◌<◌, ◌≤◌, ◌∙◌, ◌&&◌, Bool, true, false, not, List, [], ◌∷◌, ◌++◌, length, map, take, drop, ap, sym, refl, subst, arith, ⊎_elim}
use Rattle.std.specs.Prelude.{filter, nat_le, nat_lt}
use Rattle.std.proofs.lemmas.Bool.{le-leb, lt-leb, lt-ltb, le-ltb, cases_lt}
use Rattle.std.proofs.lemmas.List.{drop-take, length-take-le, length-drop}
use Rattle.std.proofs.lemmas.List.Elements.{filter_agree}
use Rattle.world_rules.specs.declared.rows.Row.{Row}
use Rattle.world_rules.specs.Picking.{places_of}
use Rattle.world_rules.specs.Edits.{up_by, new_rows}
use Rattle.world_rules.specs.Laws.{numbers_from, between}
use Rattle.world_rules.proofs.Filters.{both_tests}

-- the rows stand from a on, each one place after the one before it
abbrev pub InRow : ℕ → List Row → Type 0
InRow a rows = places_of rows ≡ numbers_from a (length rows)

pub row_head : (a : ℕ) (row : Row) (rows : List Row) → InRow a (row ∷ rows) → row.n ≡ a
row_head a row rows e = cc

pub row_tail : (a : ℕ) (row : Row) (rows : List Row) → InRow a (row ∷ rows) → InRow (a + 1) rows
row_tail a row rows e = cc

pub row_cons : (a : ℕ) (row : Row) (rows : List Row) → row.n ≡ a → InRow (a + 1) rows → InRow a (row ∷ rows)
row_cons a row rows here rest = λ i. here i ∷ rest i

pub row_from : (a b : ℕ) (rows : List Row) → a ≡ b → InRow a rows → InRow b rows
row_from a b rows e row = subst (λ n. InRow n rows) e row

-- ---- parts

pub row_append : (a : ℕ) (xs ys : List Row) → InRow a xs → InRow (a + length xs) ys → InRow a (xs ++ ys)
row_append a [] ys front back = row_from (a + 0) a ys (omega arith) back
row_append a (x ∷ xs) ys front back =
    row_cons a x (xs ++ ys) (row_head a x xs front) (row_append (a + 1) xs ys (row_tail a x xs front) (row_from (a + suc (length xs)) (a + 1 + length xs) ys (omega arith) back))

pub row_take : (a i : ℕ) (xs : List Row) → InRow a xs → InRow a (take i xs)
row_take a zero xs row = refl
row_take a (suc i) [] row = refl
row_take a (suc i) (x ∷ xs) row = row_cons a x (take i xs) (row_head a x xs row) (row_take (a + 1) i xs (row_tail a x xs row))

pub row_drop : (a i : ℕ) (xs : List Row) → i ≤ length xs → InRow a xs → InRow (a + i) (drop i xs)
row_drop a zero xs le row = row_from a (a + 0) xs (omega arith) row
row_drop a (suc i) [] le row = absurd (omega arith)
row_drop a (suc i) (x ∷ xs) le row = row_from (a + 1 + i) (a + suc i) (drop i xs) (omega arith) (row_drop (a + 1) i xs (omega arith) (row_tail a x xs row))

-- ---- moves

-- each place goes as far as the first one
pub row_map : (f : Row → Row) (a b : ℕ) (xs : List Row) → ((row : Row) (i : ℕ) → row.n ≡ a + i → (f row).n ≡ b + i) → InRow a xs → InRow b (map f xs)
row_map f a b [] goes row = refl
row_map f a b (x ∷ xs) goes row =
    let here : x.n ≡ a = row_head a x xs row in
    row_cons b (f x) (map f xs) (goes x 0 (omega arith) ∙ omega arith)
    (row_map f (a + 1) (b + 1) xs (λ r i e. goes r (i + 1) (omega arith) ∙ omega arith) (row_tail a x xs row))

pub row_up : (a k : ℕ) (xs : List Row) → InRow a xs → InRow (a + k) (map (up_by k) xs)
row_up a k xs row = row_map (up_by k) a (a + k) xs (λ r i e. omega arith) row

pub row_new : (document : List ℕ) (n : ℕ) (addresses : List (List ℕ)) → InRow n (new_rows document n addresses)
row_new document n [] = refl
row_new document n (address ∷ addresses) = ap (λ (ns : List ℕ). n ∷ ns) (row_new document (n + 1) addresses)

-- ---- tests of places

-- each place passes
pub row_all : (q : ℕ → Bool) (a : ℕ) (rows : List Row) → InRow a rows → ((n : ℕ) → a ≤ n → n < a + length rows → q n ≡ true) → filter (λ (row : Row). q row.n) rows ≡ rows
row_all q a [] row passes = refl
row_all q a (x ∷ xs) row passes =
    let here : x.n ≡ a = row_head a x xs row in
    rw (passes x.n (omega arith) (omega arith)) (ap (λ (ys : List Row). x ∷ ys) (row_all q (a + 1) xs (row_tail a x xs row) (λ n low high. passes n (omega arith) (omega arith))))

-- none does
pub row_none : (q : ℕ → Bool) (a : ℕ) (rows : List Row) → InRow a rows → ((n : ℕ) → a ≤ n → n < a + length rows → q n ≡ false) → filter (λ (row : Row). q row.n) rows ≡ []
row_none q a [] row fails = refl
row_none q a (x ∷ xs) row fails =
    let here : x.n ≡ a = row_head a x xs row in
    rw (fails x.n (omega arith) (omega arith)) (row_none q (a + 1) xs (row_tail a x xs row) (λ n low high. fails n (omega arith) (omega arith)))

-- those before n are the first i
pub early_rows : (n a i : ℕ) (rows : List Row) → n ≡ a + i → InRow a rows → filter (λ (row : Row). not (nat_le n row.n)) rows ≡ take i rows
early_rows n a zero rows at row = row_none (λ m. not (nat_le n m)) a rows row (λ m low high. rw (le-leb n m (omega arith)) refl)
early_rows n a (suc i) [] at row = refl
early_rows n a (suc i) (x ∷ xs) at row =
    let here : x.n ≡ a = row_head a x xs row in
    rw (lt-leb n x.n (omega arith)) (ap (λ (ys : List Row). x ∷ ys) (early_rows n (a + 1) i xs (omega arith) (row_tail a x xs row)))

-- the others are the rest
pub late_rows : (n a i : ℕ) (rows : List Row) → n ≡ a + i → InRow a rows → filter (λ (row : Row). nat_le n row.n) rows ≡ drop i rows
late_rows n a zero rows at row = row_all (nat_le n) a rows row (λ m low high. le-leb n m (omega arith))
late_rows n a (suc i) [] at row = refl
late_rows n a (suc i) (x ∷ xs) at row =
    let here : x.n ≡ a = row_head a x xs row in
    rw (lt-leb n x.n (omega arith)) (late_rows n (a + 1) i xs (omega arith) (row_tail a x xs row))

lt_not : (a b : ℕ) → nat_lt a b ≡ not (nat_le b a)
lt_not a b = ⊎_elim (λ (lt : a < b). lt-ltb a b lt ∙ sym (ap not (lt-leb b a lt))) (λ (le : b ≤ a). le-ltb a b le ∙ sym (ap not (le-leb b a le))) (cases_lt a b)

-- those from low up to high
pub rows_between : (low high : ℕ) (rows : List Row) → 1 ≤ low → low ≤ high → InRow 1 rows
    → filter (λ (row : Row). nat_le low row.n && nat_lt row.n high) rows ≡ between low high rows
rows_between low high rows from_one up row =
    let to_high : high - 1 ≡ low - 1 + (high - low) = omega arith in
    sym (both_tests (λ (r : Row). nat_le low r.n) (λ (r : Row). nat_lt r.n high) rows)
    ∙ ap (filter (λ (r : Row). nat_le low r.n)) (filter_agree (λ (r : Row). nat_lt r.n high) (λ (r : Row). not (nat_le high r.n)) (λ r. lt_not r.n high) rows ∙ early_rows high 1 (high - 1) rows (omega arith) row)
    ∙ late_rows low 1 (low - 1) (take (high - 1) rows) (omega arith) (row_take 1 (high - 1) rows row)
    ∙ ap (λ (n : ℕ). drop (low - 1) (take n rows)) to_high
    ∙ drop-take (low - 1) (high - low) rows

pub row_between : (low high : ℕ) (rows : List Row) → 1 ≤ low → low ≤ length rows + 1 → InRow 1 rows → InRow low (between low high rows)
row_between low high rows from_one to_end row =
    row_take low (high - low) (drop (low - 1) rows) (row_from (1 + (low - 1)) low (drop (low - 1) rows) (omega arith) (row_drop 1 (low - 1) rows (omega arith) row))

pub length-between : {X : Type 0} (low high : ℕ) (xs : List X) → 1 ≤ low → low ≤ high → high ≤ length xs + 1 → length (between low high xs) ≡ high - low
length-between low high xs from_one up to_end = length-take-le (high - low) (drop (low - 1) xs) (omega (arith, length-drop (low - 1) xs))
