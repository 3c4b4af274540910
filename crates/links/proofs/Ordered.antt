-- Links in order: the place that a search finds, and what changes of rows do to them.
use Rattle.std.proofs.Common.{◌≡◌, ℕ, Bool, true, false, cond, not, List, [], ◌∷◌, map, Ordering, Less, Equal, Greater, refl, ap, subst, nat_cmp}
use Rattle.std.specs.List.{filter}
use Rattle.std.specs.List.Sorted.{IsPartitionedBy}
use Rattle.std.specs.Cmp.Lexicographic.{slice_cmp}
use Rattle.std.specs.Ordering.{match_ordering}
use Rattle.std.specs.BTreeSet.{insert_key}
use Rattle.std.specs.declared.boxed.Box.{Box}
use Rattle.tumbler.proofs.RowsInOrder as rows
use Rattle.world_rules.specs.World.{LinkRow, is_same}
use Rattle.links.specs.declared.row.LinkRow as kept
use Rattle.links.specs.LinkLists.{is_of, ids_in, id_cmp, removed}
use Rattle.links.specs.inside.Kept.{unboxed, IsAscending, is_before}

-- ---- the place

module _ {A : Type 0} where
  ids_are : (boxes : List (Box kept.LinkRow A)) → ids_in (unboxed boxes) ≡ map (λ b. b.value.id) boxes
  ids_are [] = refl
  ids_are (b ∷ bs) = ap (λ (all : List (List ℕ)). b.value.id ∷ all) (ids_are bs)

  pub parted : (id : List ℕ) (boxes : List (Box kept.LinkRow A)) → IsAscending (ids_in (unboxed boxes)) → IsPartitionedBy (is_before id) boxes
  parted id boxes ascends = rows.parted (λ (b : Box kept.LinkRow A). b.value.id) id boxes (subst IsAscending (ids_are boxes) ascends)

-- ---- the ids of links that change

pub ids_added : (row : LinkRow) (rows : List LinkRow) → ids_in (insert_key id_cmp rows row) ≡ insert_key (slice_cmp nat_cmp) (ids_in rows) row.id
ids_added row [] = refl
ids_added row (r ∷ rows) = step (slice_cmp nat_cmp row.id r.id) (ids_added row rows)
  where
    step : (o : Ordering) → ids_in (insert_key id_cmp rows row) ≡ insert_key (slice_cmp nat_cmp) (ids_in rows) row.id
        → ids_in (match_ordering o (row ∷ r ∷ rows) (r ∷ rows) (r ∷ insert_key id_cmp rows row))
        ≡ match_ordering o (row.id ∷ r.id ∷ ids_in rows) (r.id ∷ ids_in rows) (r.id ∷ insert_key (slice_cmp nat_cmp) (ids_in rows) row.id)
    step Less rest = refl
    step Equal rest = refl
    step Greater rest = ap (λ ds. r.id ∷ ds) rest

pub ids_removed : (id : List ℕ) (rows : List LinkRow) → ids_in (removed rows id) ≡ filter (λ d. not (is_same d id)) (ids_in rows)
ids_removed id [] = refl
ids_removed id (r ∷ rows) = step (not (is_of id r)) (ids_removed id rows)
  where
    step : (b : Bool) → ids_in (removed rows id) ≡ filter (λ d. not (is_same d id)) (ids_in rows)
        → ids_in (cond b (r ∷ removed rows id) (removed rows id)) ≡ cond b (r.id ∷ filter (λ d. not (is_same d id)) (ids_in rows)) (filter (λ d. not (is_same d id)) (ids_in rows))
    step true rest = ap (λ ds. r.id ∷ ds) rest
    step false rest = rest
