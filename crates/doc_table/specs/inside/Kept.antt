-- The rows that are kept, and how many documents there are of each front.
use Rattle.std.specs.Prelude.{◌≡◌, ℕ, ◌<◌, Bool, true, slice_index_or, List, [], ◌∷◌, map, length, count_by}
use Rattle.std.specs.Ordering.{nat_cmp}
use Rattle.std.specs.Cmp.Lexicographic.{slice_cmp}
use Rattle.std.specs.List.{prefix_len}
use Rattle.tumbler.specs.Places.{comes_before}
use Rattle.std.specs.List.Sorted.{IsStrictlySortedBy}
use Rattle.std.specs.BTreeMap.{BTreeMap}
use Rattle.std.specs.declared.boxed.Box.{Box}
use Rattle.doc_table.specs.declared.rows.DocumentRow.{DocumentRow}
use Rattle.world_rules.specs.World.{is_same}
use Rattle.world_rules.specs.Counting.{count_in}

abbrev pub unboxed : {R A : Type 0} → List (Box (DocumentRow R) A) → List (DocumentRow R)
unboxed boxes = map (λ b. b.value) boxes

-- the documents ascend, each once
abbrev pub IsAscending : List (List ℕ) → Type 0
IsAscending documents = IsStrictlySortedBy (slice_cmp nat_cmp) documents

-- the address with 1 as its last place, and zero for zero
abbrev pub first_sibling : List ℕ → List ℕ
first_sibling [] = []
first_sibling (x ∷ []) = 1 ∷ []
first_sibling (x ∷ y ∷ places) = x ∷ first_sibling (y ∷ places)

-- at each key is kept how many documents have it as their first sibling
abbrev pub HoldsCounts : List (List ℕ) → BTreeMap (List ℕ) ℕ → Type 0
HoldsCounts documents counts = (key : List ℕ) → count_in counts key ≡ count_by (λ d. is_same (first_sibling d) key) documents

-- the row's document comes before this one
abbrev pub is_before : {R A : Type 0} → List ℕ → Box (DocumentRow R) A → Bool
is_before document row = comes_before row.value.document document

-- the row at this place is the document's, and those before it are of documents before it
pub record IsAt {R A : Type 0} (document : List ℕ) (rows : List (Box (DocumentRow R) A)) (at : ℕ) : Type 0 where
  pub place : at ≡ prefix_len (is_before document) rows
  pub within : at < length rows
  pub own : (d : Box (DocumentRow R) A) → is_same (slice_index_or rows at d).value.document document ≡ true
