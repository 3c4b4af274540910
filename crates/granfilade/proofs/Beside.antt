-- How rows of content stand beside the start of a put.
use Rattle.std.proofs.Common.{◌≡◌, ℕ, ◌+◌, ◌-◌, ◌<◌, ◌≤◌, true, List, [], ◌∷◌, ◌++◌, length, arith, ap, ◌∙◌, sym, subst, inl, inr}
use Rattle.std.specs.List.{All}
use Rattle.std.proofs.lemmas.Bool.{cases_lt}
use Rattle.std.proofs.lemmas.List.Elements.{All-nil, All-cons, All-head, All-tail}
use Rattle.tumbler.specs.ListView.{ListView}
use Rattle.tumbler.specs.Places.{IsBefore, IsUpTo, comes_before}
use Rattle.tumbler.proofs.Order.{upto_if_before, upto_or_before}
use Rattle.tumbler.proofs.Before.{true_if_before}
use Rattle.tumbler.proofs.Spans.{not_before}
use Rattle.enfilade_core.specs.declared.tree.Row.{Row}
use Rattle.granfilade.specs.Content.{ByteAt, so_far_on, laid_from, laid_row}
use Rattle.granfilade.specs.Puts.{IsByteOf, IsBelow, IsLeaf, end_of_row}
use Rattle.granfilade.proofs.Documents.{part_of, step-none, address-last, step-in, step-byte, below-byte, less_if_before, below-between, document-between}

-- ---- of each byte of a row

pub each_laid : (P : List ℕ → Type 0) (start : List ℕ) (k : ℕ) (bytes : List ℕ) → All (λ (at : ByteAt). P at.address) (laid_from start k bytes) → (j : ℕ) → k ≤ j → j < k + length bytes → P (so_far_on start j)
each_laid P start k [] all j le lt = absurd (omega (arith, le, lt))
each_laid P start k (byte ∷ bytes) all j le lt =
    let at : ByteAt = record { address = so_far_on start k; byte = byte } in
    let rest = laid_from start (k + 1) bytes in
    elim (cases_lt k j) [
      | inl less ↦ each_laid P start (k + 1) bytes (All-tail (λ (at : ByteAt). P at.address) at rest all) j (omega (arith, less)) (omega (arith, lt))
      | inr ge ↦ let same : k ≡ j = omega (arith, le, ge) in subst (λ n. P (so_far_on start n)) same (All-head (λ (at : ByteAt). P at.address) at rest all)
    ]

pub all_laid : (P : List ℕ → Type 0) (start : List ℕ) (k : ℕ) (bytes : List ℕ) → ((j : ℕ) → j < k + length bytes → P (so_far_on start j)) → All (λ (at : ByteAt). P at.address) (laid_from start k bytes)
all_laid P start k [] each = All-nil (λ (at : ByteAt). P at.address)
all_laid P start k (byte ∷ bytes) each =
    All-cons (λ (at : ByteAt). P at.address) (record { address = so_far_on start k; byte = byte }) (laid_from start (k + 1) bytes) (each k (omega arith)) (all_laid P start (k + 1) bytes (λ j lt. each j (omega (arith, lt))))

-- ---- beside the start

-- all bytes of a row that are in a document come before a start
abbrev pub StaysBelow : List ℕ → List ℕ → Row (ListView ℕ) → Type 0
StaysBelow start document row = All (λ (at : ByteAt). IsBelow at.address document → IsBefore at.address start) (laid_row row)

byte-below : (start document : List ℕ) (row : Row (ListView ℕ)) (j : ℕ) → StaysBelow start document row → j < length row.leaf.items → IsBelow (so_far_on row.first j) document → IsBefore (so_far_on row.first j) start
byte-below start document row j stays lt = each_laid (λ a. IsBelow a document → IsBefore a start) row.first 0 row.leaf.items stays j (omega arith) (omega (arith, lt))

-- a row that begins before the start has each byte before it
pub front-byte : (start document : List ℕ) (row : Row (ListView ℕ)) (j : ℕ) → IsByteOf start document → IsLeaf row → StaysBelow start document row → IsBefore row.first start → j < length row.leaf.items → IsBefore (so_far_on row.first j) start
front-byte start document row j c leaf stays lt within = elim (upto_or_before start (so_far_on row.first j)) [
  | inl le ↦
      let same = document-between row.first leaf.document start document leaf.address c j (upto_if_before row.first start lt) le in
      let below = subst (IsBelow (so_far_on row.first j)) (sym same) (below-byte (so_far_on row.first j) leaf.document (step-byte row.first leaf.document leaf.address j)) in
      absurd (not_before start (so_far_on row.first j) le (byte-below start document row j stays within below))
  | inr before ↦ before
]

-- and ends at or before it
pub front-end : (start document : List ℕ) (row : Row (ListView ℕ)) → IsByteOf start document → IsLeaf row → StaysBelow start document row → IsBefore row.first start → IsUpTo (end_of_row row) start
front-end start document row c leaf stays lt = elim (upto_or_before (end_of_row row) start) [
  | inl le ↦ le
  | inr past ↦
      let n = length row.leaf.items in
      let same = document-between row.first leaf.document start document leaf.address c n (upto_if_before row.first start lt) (upto_if_before start (end_of_row row) past) in
      let at : start ≡ part_of leaf.document ++ c.number ∷ [] = address-last start document c ∙ ap (λ d. part_of d ++ c.number ∷ []) same in
      let more = less_if_before (part_of leaf.document) c.number (leaf.address.number + n) (subst (λ a. IsBefore a (part_of leaf.document ++ (leaf.address.number + n) ∷ [])) at
      (subst (IsBefore start) (step-in row.first leaf.document leaf.address n) past)) in
      let less = less_if_before (part_of leaf.document) (leaf.address.number + (n - 1)) c.number (subst (IsBefore (part_of leaf.document ++ (leaf.address.number + (n - 1)) ∷ [])) at
      (subst (λ a. IsBefore a start) (step-in row.first leaf.document leaf.address (n - 1)) (front-byte start document row (n - 1) c leaf stays lt (omega (arith, leaf.filled))))) in
      absurd (omega (arith, more, less, leaf.filled))
]

-- a row at or past the start stands past all that is put there
pub back-past : (start document : List ℕ) (row : Row (ListView ℕ)) (k : ℕ) → IsByteOf start document → 0 < length row.leaf.items → StaysBelow start document row → IsUpTo start row.first → IsUpTo (so_far_on start k) row.first
back-past start document row k c some stays le = elim (upto_or_before (so_far_on start k) row.first) [
  | inl past ↦ past
  | inr before ↦
      let below = below-between start document row.first c k le (upto_if_before row.first (so_far_on start k) before) in
      let first = byte-below start document row 0 stays some (subst (λ a. IsBelow a document) (sym (step-none row.first)) below) in
      absurd (not_before start row.first le (subst (λ a. IsBefore a start) (step-none row.first) first))
]

pub front-row : (start document : List ℕ) (row : Row (ListView ℕ)) → IsByteOf start document → IsLeaf row → StaysBelow start document row → IsBefore row.first start → All (λ (at : ByteAt). comes_before at.address start ≡ true) (laid_row row)
front-row start document row c leaf stays lt =
    all_laid (λ a. comes_before a start ≡ true) row.first 0 row.leaf.items
    (λ j within. true_if_before (so_far_on row.first j) start (front-byte start document row j c leaf stays lt (omega (arith, within))))
