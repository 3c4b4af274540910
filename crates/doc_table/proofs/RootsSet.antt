-- Each row gets a root of its own.
use Rattle.std.proofs.Common.{◌≡◌, ◌∙◌, ℕ, zero, suc, ◌+◌, ◌<◌, List, [], ◌∷◌, length, take, get_or, ◌≤◌, Some, None, refl, sym, ap, subst, arith}
use Rattle.std.specs.Prelude.{set}
use Rattle.std.proofs.lemmas.List.{length-map, map-set, get_or-map, take_all}
use Rattle.std.proofs.lemmas.Option.{slice_get-map, slice_get_read, slice_get_past}
use Rattle.std.specs.List.{slice_get}
use Rattle.std.specs.Option.{option_map}
use Rattle.std.specs.BTreeMap.{BTreeMap}
use Rattle.std.specs.declared.boxed.Box.{Box}
use Rattle.doc_table.specs.declared.rows.DocumentRow.{DocumentRow}
use Rattle.doc_table.specs.DocumentRows.{documents_in, with_roots}
use Rattle.doc_table.specs.inside.Kept.{unboxed, IsAscending, HoldsCounts}
use Rattle.doc_table.proofs.Changed.{Holds, row_with_root}

module _ {R : Type 0} where
  rows_long : (roots : List R) (rows : List (DocumentRow R)) → length (with_roots roots rows) ≡ length rows
  rows_long [] rows = refl
  rows_long (root ∷ roots) [] = refl
  rows_long (root ∷ roots) (row ∷ rows) = ap suc (rows_long roots rows)

  pub same_documents : (roots : List R) (rows : List (DocumentRow R)) → documents_in (with_roots roots rows) ≡ documents_in rows
  same_documents [] rows = refl
  same_documents (root ∷ roots) [] = refl
  same_documents (root ∷ roots) (row ∷ rows) = ap (λ (ds : List (List ℕ)). row.document ∷ ds) (same_documents roots rows)

  root_step : (roots : List R) (rows : List (DocumentRow R)) (k : ℕ) (r : R) (d : DocumentRow R) → k < length roots → k < length rows
      → set (with_roots (take k roots) rows) k (row_with_root (get_or roots k r) (get_or (with_roots (take k roots) rows) k d)) ≡ with_roots (take (suc k) roots) rows
  root_step [] rows k r d lt there = absurd (omega (arith, lt))
  root_step (root ∷ roots) [] k r d lt there = absurd (omega (arith, there))
  root_step (root ∷ roots) (row ∷ rows) zero r d lt there = refl
  root_step (root ∷ roots) (row ∷ rows) (suc k) r d lt there = ap (λ (t : List (DocumentRow R)). record row { root = root } ∷ t) (root_step roots rows k r d (omega (arith, lt)) (omega (arith, there)))

  module _ {A : Type 0} where
    long : (boxes : List (Box (DocumentRow R) A)) → length (unboxed boxes) ≡ length boxes
    long boxes = length-map boxes (λ (b : Box (DocumentRow R) A). b.value)

    pub none_set : (boxes : List (Box (DocumentRow R) A)) (roots : List R) → unboxed boxes ≡ with_roots (take 0 roots) (unboxed boxes)
    none_set boxes roots = refl

    -- how many rows there are stays
    pub still_long : (boxes first : List (Box (DocumentRow R) A)) (roots : List R) (k : ℕ) → unboxed boxes ≡ with_roots (take k roots) (unboxed first) → length boxes ≡ length first
    still_long boxes first roots k is = sym (long boxes) ∙ ap length is ∙ rows_long (take k roots) (unboxed first) ∙ long first

    -- the row at k gets the root at k
    pub next_set : (boxes first now : List (Box (DocumentRow R) A)) (roots : List R) (k : ℕ) (root : R) (x new : Box (DocumentRow R) A) → length roots ≡ length first → k < length roots → unboxed boxes ≡ with_roots (take k roots) (unboxed first)
        → x ≡ get_or boxes k x → root ≡ get_or roots k root → new.value ≡ row_with_root root x.value → now ≡ set boxes k new → unboxed now ≡ with_roots (take (k + 1) roots) (unboxed first)
    next_set boxes first now roots k root x new same lt is own at made so =
        let rows = with_roots (take k roots) (unboxed first) in
        let there : k < length boxes = omega (arith, lt, same, still_long boxes first roots k is) in
        let value : new.value ≡ row_with_root (get_or roots k root) (get_or rows k x.value) =
        made ∙ ap (λ (r : R). row_with_root r x.value) at
        ∙ ap (row_with_root (get_or roots k root)) (ap (λ (b : Box (DocumentRow R) A). b.value) own ∙ sym (get_or-map (λ (b : Box (DocumentRow R) A). b.value) boxes k x x.value there) ∙ ap (λ (rs : List (DocumentRow R)). get_or rs k x.value) is) in
        let next : k + 1 ≡ suc k = omega arith in
        ap unboxed so ∙ map-set (λ (b : Box (DocumentRow R) A). b.value) boxes k new ∙ ap (λ (rs : List (DocumentRow R)). set rs k new.value) is ∙ ap (set rows k) value
        ∙ root_step roots (unboxed first) k root x.value lt (omega (arith, lt, same, long first)) ∙ ap (λ (n : ℕ). with_roots (take n roots) (unboxed first)) (sym next)

    pub all_set : (boxes first : List (Box (DocumentRow R) A)) (roots : List R) (k : ℕ) → unboxed boxes ≡ with_roots (take k roots) (unboxed first) → length roots ≤ k → unboxed boxes ≡ with_roots roots (unboxed first)
    all_set boxes first roots k is le = is ∙ ap (λ (rs : List R). with_roots rs (unboxed first)) (take_all k roots le)

    -- what holds of the rows and counts that are kept still does
    pub roots_hold : (boxes now : List (Box (DocumentRow R) A)) (roots : List R) (counts : BTreeMap (List ℕ) ℕ) → unboxed now ≡ with_roots roots (unboxed boxes) → Holds boxes counts → Holds now counts
    roots_hold boxes now roots counts is holds =
        let documents : documents_in (unboxed now) ≡ documents_in (unboxed boxes) = ap documents_in is ∙ same_documents roots (unboxed boxes) in
        let same = sym (long now) ∙ ap length is ∙ rows_long roots (unboxed boxes) ∙ long boxes in
        (omega (arith, same, holds.0), subst IsAscending (sym documents) holds.1, subst (λ (ds : List (List ℕ)). HoldsCounts ds counts) (sym documents) holds.2)

-- ---- the root of the k-th row

pub root_some : {R A : Type 0} (boxes : List (Box (DocumentRow R) A)) (k : ℕ) (x : Box (DocumentRow R) A) → k < length boxes → x ≡ get_or boxes k x → Some x.value.root ≡ option_map (λ (row : DocumentRow R). row.root) (slice_get (unboxed boxes) k)
root_some boxes k x within is =
    sym (ap (option_map (λ (row : DocumentRow _). row.root)) (slice_get-map (λ b. b.value) boxes k ∙ ap (option_map (λ b. b.value)) (slice_get_read boxes (length boxes) k x refl within is)))

pub root_none : {R A : Type 0} (boxes : List (Box (DocumentRow R) A)) (k : ℕ) → length boxes ≤ k → None ≡ option_map (λ (row : DocumentRow R). row.root) (slice_get (unboxed boxes) k)
root_none boxes k past = sym (ap (option_map (λ (row : DocumentRow _). row.root)) (slice_get-map (λ b. b.value) boxes k ∙ ap (option_map (λ b. b.value)) (slice_get_past boxes k past)))
