-- Documents in order: the place that a search finds, and what changes of rows do to them.
use Rattle.std.proofs.Common.{◌≡◌, ℕ, suc, Bool, true, false, cond, not, List, [], ◌∷◌, length, map, Ordering, Less, Equal, Greater, refl, ap, subst, nat_cmp}
use Rattle.std.specs.List.{filter}
use Rattle.std.specs.List.Sorted.{IsPartitionedBy}
use Rattle.std.specs.Cmp.Lexicographic.{slice_cmp}
use Rattle.std.specs.Ordering.{match_ordering}
use Rattle.std.specs.BTreeSet.{insert_key}
use Rattle.std.specs.declared.boxed.Box.{Box}
use Rattle.tumbler.proofs.RowsInOrder as rows
use Rattle.world_rules.specs.World.{is_same}
use Rattle.doc_table.specs.declared.rows.DocumentRow.{DocumentRow}
use Rattle.doc_table.specs.DocumentRows.{is_of, documents_in, row_cmp, removed}
use Rattle.doc_table.specs.inside.Kept.{unboxed, IsAscending, is_before}
use Rattle.doc_table.proofs.Placed.{changed}

-- ---- the place

module _ {R A : Type 0} where
  pub long : (boxes : List (Box (DocumentRow R) A)) → length (documents_in (unboxed boxes)) ≡ length boxes
  long [] = refl
  long (b ∷ bs) = ap suc (long bs)

  documents_are : (boxes : List (Box (DocumentRow R) A)) → documents_in (unboxed boxes) ≡ map (λ b. b.value.document) boxes
  documents_are [] = refl
  documents_are (b ∷ bs) = ap (λ (all : List (List ℕ)). b.value.document ∷ all) (documents_are bs)

  pub parted : (document : List ℕ) (boxes : List (Box (DocumentRow R) A)) → IsAscending (documents_in (unboxed boxes)) → IsPartitionedBy (is_before document) boxes
  parted document boxes ascends = rows.parted (λ (b : Box (DocumentRow R) A). b.value.document) document boxes (subst IsAscending (documents_are boxes) ascends)

-- ---- the documents of rows that change

module _ {R : Type 0} where
  pub documents_added : (row : DocumentRow R) (rows : List (DocumentRow R)) → documents_in (insert_key row_cmp rows row) ≡ insert_key (slice_cmp nat_cmp) (documents_in rows) row.document
  documents_added row [] = refl
  documents_added row (r ∷ rows) = step (slice_cmp nat_cmp row.document r.document) (documents_added row rows)
    where
      step : (o : Ordering) → documents_in (insert_key row_cmp rows row) ≡ insert_key (slice_cmp nat_cmp) (documents_in rows) row.document
          → documents_in (match_ordering o (row ∷ r ∷ rows) (r ∷ rows) (r ∷ insert_key row_cmp rows row))
          ≡ match_ordering o (row.document ∷ r.document ∷ documents_in rows) (r.document ∷ documents_in rows) (r.document ∷ insert_key (slice_cmp nat_cmp) (documents_in rows) row.document)
      step Less rest = refl
      step Equal rest = refl
      step Greater rest = ap (λ ds. r.document ∷ ds) rest

  pub documents_removed : (document : List ℕ) (rows : List (DocumentRow R)) → documents_in (removed rows document) ≡ filter (λ d. not (is_same d document)) (documents_in rows)
  documents_removed document [] = refl
  documents_removed document (r ∷ rows) = step (not (is_of document r)) (documents_removed document rows)
    where
      step : (b : Bool) → documents_in (removed rows document) ≡ filter (λ d. not (is_same d document)) (documents_in rows)
          → documents_in (cond b (r ∷ removed rows document) (removed rows document)) ≡ cond b (r.document ∷ filter (λ d. not (is_same d document)) (documents_in rows)) (filter (λ d. not (is_same d document)) (documents_in rows))
      step true rest = ap (λ ds. r.document ∷ ds) rest
      step false rest = rest

  pub documents_changed : (document : List ℕ) (f : DocumentRow R → DocumentRow R) → ((row : DocumentRow R) → (f row).document ≡ row.document) → (rows : List (DocumentRow R)) → documents_in (changed document f rows) ≡ documents_in rows
  documents_changed document f keeps [] = refl
  documents_changed document f keeps (r ∷ rows) = step (is_of document r) (documents_changed document f keeps rows)
    where
      step : (b : Bool) → documents_in (changed document f rows) ≡ documents_in rows → (cond b (f r) r).document ∷ documents_in (changed document f rows) ≡ r.document ∷ documents_in rows
      step true rest = rw (keeps r, rest) refl
      step false rest = rw rest refl
