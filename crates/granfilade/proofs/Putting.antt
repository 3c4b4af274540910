-- Rows that come in at a start, and what that does to what is laid out.
use Rattle.std.proofs.Common.{◌≡◌, ℕ, ◌+◌, ◌<◌, Bool, true, false, cond, List, [], ◌∷◌, ◌++◌, length, refl, arith, ap, ◌∙◌, sym}
use Rattle.std.specs.List.{All}
use Rattle.std.proofs.lemmas.List.Elements.{All-cons, All-head, All-tail, All-weaker, All-append}
use Rattle.std.proofs.lemmas.Grind.{flat_map-append}
use Rattle.tumbler.specs.ListView.{ListView}
use Rattle.tumbler.specs.Places.{IsUpTo, comes_before}
use Rattle.tumbler.proofs.Order.{upto_upto}
use Rattle.enfilade_core.specs.declared.tree.Row.{Row}
use Rattle.enfilade_core.specs.Axes.{InOrder}
use Rattle.enfilade_core.specs.Edits.{put_before}
use Rattle.granfilade.specs.Content.{ByteAt, so_far_on, laid_from, laid, laid_row, laid_out}
use Rattle.granfilade.specs.Puts.{put_in, Linked}
use Rattle.granfilade.proofs.Documents.{step-none}

abbrev pub RowOf : Type 0
RowOf = Row (ListView ℕ)

by_test : (Q : List RowOf → Type 0) (xs ys : List RowOf) (b : Bool) → (b ≡ true → Q xs) → (b ≡ false → Q ys) → Q (cond b xs ys)
by_test Q xs ys true front back = front refl
by_test Q xs ys false front back = back refl

put-cases : (Q : List RowOf → Type 0) (start : List ℕ) (new : List RowOf) (row : RowOf) (rows : List RowOf) → (comes_before row.first start ≡ true → Q (row ∷ put_before start new rows))
    → (comes_before row.first start ≡ false → Q (new ++ row ∷ rows)) → Q (put_before start new (row ∷ rows))
put-cases Q start new row rows front back = by_test Q (row ∷ put_before start new rows) (new ++ row ∷ rows) (comes_before row.first start) front back

pub All-put : (P : RowOf → Type 0) (start : List ℕ) (new rows : List RowOf) → All P new → All P rows → All P (put_before start new rows)
All-put P start new [] all more = all
All-put P start new (row ∷ rows) all more =
    put-cases (All P) start new row rows
    (λ _. All-cons P row (put_before start new rows) (All-head P row rows more) (All-put P start new rows all (All-tail P row rows more)))
    (λ _. All-append P new (row ∷ rows) all more)

-- ---- rows that are linked

pub linked-join : (said : RowOf → List ℕ) (xs ys : List RowOf) → Linked said xs → Linked said ys → All (λ x. All (λ y. IsUpTo (said x) y.first) ys) xs → Linked said (xs ++ ys)
linked-join said [] ys h g all = g
linked-join said (x ∷ xs) ys h g all = (
  All-append (λ r. IsUpTo (said x) r.first) xs ys h.0 (All-head (λ x. All (λ y. IsUpTo (said x) y.first) ys) x xs all),
  linked-join said xs ys h.1 g (All-tail (λ x. All (λ y. IsUpTo (said x) y.first) ys) x xs all),
)

-- how a row stands beside new ones: they come behind it where it is before the start, and else before it
pub record Parts (said : RowOf → List ℕ) (start : List ℕ) (new : List RowOf) (row : RowOf) : Type 0 where
  pub front : comes_before row.first start ≡ true → All (λ r. IsUpTo (said row) r.first) new
  pub back : comes_before row.first start ≡ false → All (λ r. IsUpTo (said r) row.first) new

pub linked-put : (said : RowOf → List ℕ) (start : List ℕ) (new rows : List RowOf) → Linked said new → Linked said rows → InOrder rows → All (Parts said start new) rows → Linked said (put_before start new rows)
linked-put said start new [] h g o parts = h
linked-put said start new (row ∷ rows) h g o parts =
    let here = All-head (Parts said start new) row rows parts in
    put-cases (Linked said) start new row rows
    (λ e. (All-put (λ r. IsUpTo (said row) r.first) start new rows (here.front e) g.0, linked-put said start new rows h g.1 o.1 (All-tail (Parts said start new) row rows parts)))
    (λ e. linked-join said new (row ∷ rows) h g
    (All-weaker (λ x. IsUpTo (said x) row.first) (λ x. All (λ y. IsUpTo (said x) y.first) (row ∷ rows))
    (λ x le. All-cons (λ y. IsUpTo (said x) y.first) row rows le (All-weaker (λ y. IsUpTo row.first y.first) (λ y. IsUpTo (said x) y.first) (λ y past. upto_upto (said x) row.first y.first le past) rows o.0)) new (here.back e)))

pub linked_if_ordered : (rows : List RowOf) → InOrder rows → Linked (λ r. r.first) rows
linked_if_ordered [] h = tt
linked_if_ordered (row ∷ rows) h = (h.0, linked_if_ordered rows h.1)

pub ordered_if_linked : (rows : List RowOf) → Linked (λ r. r.first) rows → InOrder rows
ordered_if_linked [] h = tt
ordered_if_linked (row ∷ rows) h = (h.0, ordered_if_linked rows h.1)

pub linked-weaker : (said other : RowOf → List ℕ) → ((row : RowOf) → IsUpTo (other row) (said row)) → (rows : List RowOf) → Linked said rows → Linked other rows
linked-weaker said other less [] h = tt
linked-weaker said other less (row ∷ rows) h =
    (All-weaker (λ r. IsUpTo (said row) r.first) (λ r. IsUpTo (other row) r.first) (λ r le. upto_upto (other row) (said row) r.first (less row) le) rows h.0, linked-weaker said other less rows h.1)

-- ---- what is laid out

pub put_in-front : (start : List ℕ) (new xs ys : List ByteAt) → All (λ (at : ByteAt). comes_before at.address start ≡ true) xs → put_in start new (xs ++ ys) ≡ xs ++ put_in start new ys
put_in-front start new [] ys all = refl
put_in-front start new (x ∷ xs) ys all =
    ap (λ t. cond t (x ∷ put_in start new (xs ++ ys)) (new ++ (x ∷ (xs ++ ys)))) (All-head (λ (at : ByteAt). comes_before at.address start ≡ true) x xs all)
    ∙ ap (λ (bs : List ByteAt). x ∷ bs) (put_in-front start new xs ys (All-tail (λ (at : ByteAt). comes_before at.address start ≡ true) x xs all))

pub put_in-row : (start : List ℕ) (new : List ByteAt) (first bytes : List ℕ) (rest : List ByteAt) → 0 < length bytes → comes_before first start ≡ false → put_in start new (laid first bytes ++ rest) ≡ new ++ (laid first bytes ++ rest)
put_in-row start new first [] rest some h = absurd (omega (arith, some))
put_in-row start new first (byte ∷ bytes) rest some h =
    let at : ByteAt = record { address = so_far_on first 0; byte = byte } in
    let more = laid_from first (0 + 1) bytes ++ rest in
    ap (λ t. cond t (at ∷ put_in start new more) (new ++ at ∷ more)) (ap (λ a. comes_before a start) (step-none first) ∙ h)

-- a row of some bytes, which are all before the start where the row is
pub record LaysBeside (start : List ℕ) (row : RowOf) : Type 0 where
  pub filled : 0 < length row.leaf.items
  pub front : comes_before row.first start ≡ true → All (λ (at : ByteAt). comes_before at.address start ≡ true) (laid_row row)

pub laid-put : (start : List ℕ) (new rows : List RowOf) → All (LaysBeside start) rows → laid_out (put_before start new rows) ≡ put_in start (laid_out new) (laid_out rows)
laid-put start new [] all = refl
laid-put start new (row ∷ rows) all =
    let here = All-head (LaysBeside start) row rows all in
    put-cases (λ rs. laid_out rs ≡ put_in start (laid_out new) (laid_row row ++ laid_out rows)) start new row rows
    (λ e. ap (λ (bs : List ByteAt). laid_row row ++ bs) (laid-put start new rows (All-tail (LaysBeside start) row rows all)) ∙ sym (put_in-front start (laid_out new) (laid_row row) (laid_out rows) (here.front e)))
    (λ e. flat_map-append laid_row new (row ∷ rows) ∙ sym (put_in-row start (laid_out new) row.first row.leaf.items (laid_out rows) here.filled e))
