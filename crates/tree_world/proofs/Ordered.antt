-- Contents stand in the order of their addresses.
use Rattle.std.proofs.Common.{◌≡◌, ◌≢◌, ℕ, ◌+◌, ◌<◌, ◌≤◌, ◌++◌, List, [], ◌∷◌, length, sym, subst, arith, All}
use Rattle.std.specs.List.{AllByRecursion}
use Rattle.std.proofs.lemmas.List.Elements.{All-head, All-tail}
use Rattle.tumbler.specs.ListView.{ListView}
use Rattle.tumbler.specs.Places.{IsBefore, IsUpTo}
use Rattle.tumbler.proofs.Order.{before_upto, upto_upto}
use Rattle.enfilade_core.specs.declared.tree.Row.{Row}
use Rattle.granfilade.specs.Content.{ByteAt, so_far_on, laid_from, laid_row, laid_out}
use Rattle.granfilade.specs.Puts.{IsByteOf, IsLeaf, IsContent, Linked, end_of_row}
use Rattle.granfilade.proofs.Documents.{step-none, step-byte}
use Rattle.granfilade.proofs.Stepping.{steps-before, steps-up_to}
use Rattle.tree_world.proofs.Within.{IsMade}

abbrev pub IsBehind : ByteAt → ByteAt → Type 0
IsBehind x y = IsBefore x.address y.address

abbrev pub Ascend : List ByteAt → Type 0
Ascend [] = Unit {0}
Ascend (x ∷ xs) = AllByRecursion (IsBehind x) xs × Ascend xs

abbrev pub AreMade : List ByteAt → Type 0
AreMade xs = AllByRecursion (λ (at : ByteAt). IsMade at.address) xs

abbrev ArePast : List ℕ → List ByteAt → Type 0
ArePast place xs = AllByRecursion (λ (at : ByteAt). IsUpTo place at.address) xs

abbrev AreBefore : List ℕ → List ByteAt → Type 0
AreBefore place xs = AllByRecursion (λ (at : ByteAt). IsBefore at.address place) xs

-- ---- one row

not_nil : (a document : List ℕ) → IsByteOf a document → a ≢ []
not_nil [] document b = λ e. none document b.parts
  where
    none : (front : List ℕ) → [] ≡ front ++ 0 ∷ 1 ∷ b.number ∷ [] → ⊥
    none [] e = cc
    none (x ∷ front) e = cc
not_nil (x ∷ a) document b = λ e. cc

module _ (start document : List ℕ) (is : IsByteOf start document) where
  past_step : (place : List ℕ) (k : ℕ) (bytes : List ℕ) → IsUpTo place (so_far_on start k) → ArePast place (laid_from start k bytes)
  past_step place k [] le = tt
  past_step place k (byte ∷ bytes) le =
      (le, past_step place (k + 1) bytes (upto_upto place (so_far_on start k) (so_far_on start (k + 1)) le (steps-up_to start k (k + 1) (not_nil start document is) (omega arith))))

  before_step : (k n : ℕ) (bytes : List ℕ) → k + length bytes ≤ n → AreBefore (so_far_on start n) (laid_from start k bytes)
  before_step k n [] le = tt
  before_step k n (byte ∷ bytes) le = (steps-before start k n (not_nil start document is) (omega (arith, le)), before_step (k + 1) n bytes (omega (arith, le)))

  behind_step : (j k : ℕ) (bytes : List ℕ) → j < k → AllByRecursion (λ (at : ByteAt). IsBefore (so_far_on start j) at.address) (laid_from start k bytes)
  behind_step j k [] lt = tt
  behind_step j k (byte ∷ bytes) lt = (steps-before start j k (not_nil start document is) lt, behind_step j (k + 1) bytes (omega (arith, lt)))

  ascend_step : (k : ℕ) (bytes : List ℕ) → Ascend (laid_from start k bytes)
  ascend_step k [] = tt
  ascend_step k (byte ∷ bytes) = (behind_step k (k + 1) bytes (omega arith), ascend_step (k + 1) bytes)

  made_step : (k : ℕ) (bytes : List ℕ) → AreMade (laid_from start k bytes)
  made_step k [] = tt
  made_step k (byte ∷ bytes) =
      let made = step-byte start document is k in
      (record { document = document; part = 1; number = made.number; is = made.parts; is_document = made.document_address }, made_step (k + 1) bytes)

-- ---- rows one after another

all_joined : (P : ByteAt → Type 0) (xs ys : List ByteAt) → AllByRecursion P xs → AllByRecursion P ys → AllByRecursion P (xs ++ ys)
all_joined P [] ys h k = k
all_joined P (x ∷ xs) ys h k = (h.0, all_joined P xs ys h.1 k)

all_behind : (x : ByteAt) (place : List ℕ) → IsBefore x.address place → (ys : List ByteAt) → ArePast place ys → AllByRecursion (IsBehind x) ys
all_behind x place lt [] past = tt
all_behind x place lt (y ∷ ys) past = (before_upto x.address place y.address lt past.0, all_behind x place lt ys past.1)

ascend_joined : (place : List ℕ) (xs ys : List ByteAt) → Ascend xs → Ascend ys → AreBefore place xs → ArePast place ys → Ascend (xs ++ ys)
ascend_joined place [] ys h k before past = k
ascend_joined place (x ∷ xs) ys h k before past = (all_joined (IsBehind x) xs ys h.0 (all_behind x place before.0 ys past), ascend_joined place xs ys h.1 k before.1 past)

row_past : (place : List ℕ) (row : Row (ListView ℕ)) → IsLeaf row → IsUpTo place row.first → ArePast place (laid_row row)
row_past place row leaf le = past_step row.first leaf.document leaf.address place 0 row.leaf.items (subst (IsUpTo place) (sym (step-none row.first)) le)

rows_past : (place : List ℕ) (rows : List (Row (ListView ℕ))) → All IsLeaf rows → All (λ (row : Row (ListView ℕ)). IsUpTo place row.first) rows → ArePast place (laid_out rows)
rows_past place [] leaves past = tt
rows_past place (row ∷ rows) leaves past =
    all_joined (λ (at : ByteAt). IsUpTo place at.address) (laid_row row) (laid_out rows)
    (row_past place row (All-head IsLeaf row rows leaves) (All-head (λ (r : Row (ListView ℕ)). IsUpTo place r.first) row rows past))
    (rows_past place rows (All-tail IsLeaf row rows leaves) (All-tail (λ (r : Row (ListView ℕ)). IsUpTo place r.first) row rows past))

content_ascends : (rows : List (Row (ListView ℕ))) → All IsLeaf rows → Linked end_of_row rows → Ascend (laid_out rows)
content_ascends [] leaves linked = tt
content_ascends (row ∷ rows) leaves linked =
    let leaf = All-head IsLeaf row rows leaves in
    ascend_joined (end_of_row row) (laid_row row) (laid_out rows) (ascend_step row.first leaf.document leaf.address 0 row.leaf.items) (content_ascends rows (All-tail IsLeaf row rows leaves) linked.1)
    (before_step row.first leaf.document leaf.address 0 (length row.leaf.items) row.leaf.items (omega arith))
    (rows_past (end_of_row row) rows (All-tail IsLeaf row rows leaves) linked.0)

content_made : (rows : List (Row (ListView ℕ))) → All IsLeaf rows → AreMade (laid_out rows)
content_made [] leaves = tt
content_made (row ∷ rows) leaves =
    let leaf = All-head IsLeaf row rows leaves in
    all_joined (λ (at : ByteAt). IsMade at.address) (laid_row row) (laid_out rows) (made_step row.first leaf.document leaf.address 0 row.leaf.items) (content_made rows (All-tail IsLeaf row rows leaves))

pub contents_ascend : (rows : List (Row (ListView ℕ))) → IsContent rows → Ascend (laid_out rows)
contents_ascend rows is = content_ascends rows is.leaves is.apart

pub contents_made : (rows : List (Row (ListView ℕ))) → IsContent rows → AreMade (laid_out rows)
contents_made rows is = content_made rows is.leaves
