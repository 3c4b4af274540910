-- Bytes in the order of their addresses.
use Rattle.std.proofs.Common.{◌≡◌, ◌≢◌, ℕ, zero, suc, ◌+◌, ◌<◌, ◌≤◌, List, [], ◌∷◌, ◌++◌, length, get_or, refl, arith, ap, ◌∙◌, sym, subst, inl, inr}
use Rattle.std.specs.Prelude.{◌⊎◌, IsPermutation}
use Rattle.std.specs.List.{All, Contains}
use Rattle.std.proofs.lemmas.List.Elements.{All-nil, All-cons, All-head, All-tail, All-append, All-weaker, All-contains}
use Rattle.std.proofs.lemmas.List.Sorted.{Contains-permutation, IsPermutation-sym}
use Rattle.tumbler.specs.ListView.{ListView}
use Rattle.tumbler.specs.Places.{IsBefore, IsUpTo}
use Rattle.tumbler.proofs.Order.{never_before_itself, before_before, before_upto, upto_upto, upto_before}
use Rattle.enfilade_core.specs.declared.tree.Row.{Row}
use Rattle.granfilade.specs.Content.{ByteAt, so_far_on, laid_from, laid_row, laid_out}
use Rattle.granfilade.specs.Puts.{IsLeaf, IsContent, Linked, end_of_row}
use Rattle.granfilade.proofs.Documents.{step-none}
use Rattle.granfilade.proofs.Stepping.{steps-before, steps-up_to}

-- ---- lists in order

abbrev Before : ByteAt → ByteAt → Type 0
Before x y = IsBefore x.address y.address

abbrev Ascends : List ByteAt → Type 0
Ascends [] = Unit {0}
Ascends (x ∷ xs) = All (Before x) xs × Ascends xs

-- an element is the first one or is among the others
contains_cases : (x z : ByteAt) (xs : List ByteAt) → Contains (x ∷ xs) z → (x ≡ z) ⊎ Contains xs z
contains_cases x z xs (zero, lt, is) = inl is
contains_cases x z xs (suc k, lt, is) = inr (k, omega (arith, lt), is)

contains_first : (x : ByteAt) (xs : List ByteAt) → Contains (x ∷ xs) x
contains_first x xs = (0, omega arith, refl)

contains_behind : (x z : ByteAt) (xs : List ByteAt) → Contains xs z → Contains (x ∷ xs) z
contains_behind x z xs c = (suc c.0, omega (arith, c.1), c.2)

none_contained : (z : ByteAt) → Contains [] z → ⊥
none_contained z c = absurd (omega (arith, c.1))

-- of what is in one list each element is in the other
abbrev IsIn : List ByteAt → List ByteAt → Type 0
IsIn xs ys = (z : ByteAt) → Contains xs z → Contains ys z

firsts_same : (x y : ByteAt) (xs ys : List ByteAt) → Ascends (x ∷ xs) → Ascends (y ∷ ys) → (y ≡ x) ⊎ Contains ys x → (x ≡ y) ⊎ Contains xs y → x ≡ y
firsts_same x y xs ys a b (inl e) d = sym e
firsts_same x y xs ys a b (inr c) (inl e) = e
firsts_same x y xs ys a b (inr c) (inr d) =
    absurd (never_before_itself x.address (before_before x.address y.address x.address (All-contains (Before x) xs y a.0 d) (All-contains (Before y) ys x b.0 c)))

-- where the first ones are the same, so are the others
rest_in : (x y : ByteAt) (xs ys : List ByteAt) → x ≡ y → All (Before x) xs → IsIn (x ∷ xs) (y ∷ ys) → IsIn xs ys
rest_in x y xs ys e before is z c = elim (contains_cases y z ys (is z (contains_behind x z xs c))) [
  | inl same ↦ absurd (never_before_itself x.address (subst (λ (w : ByteAt). IsBefore x.address w.address) (sym (e ∙ same)) (All-contains (Before x) xs z before c)))
  | inr behind ↦ behind
]

same_elements : (xs ys : List ByteAt) → Ascends xs → Ascends ys → IsIn xs ys → IsIn ys xs → xs ≡ ys
same_elements [] [] a b is also = refl
same_elements [] (y ∷ ys) a b is also = absurd (none_contained y (also y (contains_first y ys)))
same_elements (x ∷ xs) [] a b is also = absurd (none_contained x (is x (contains_first x xs)))
same_elements (x ∷ xs) (y ∷ ys) a b is also =
    let e : x ≡ y = firsts_same x y xs ys a b (contains_cases y x ys (is x (contains_first x xs))) (contains_cases x y xs (also y (contains_first y ys))) in
    let rest : xs ≡ ys = same_elements xs ys a.1 b.1 (rest_in x y xs ys e a.0 is) (rest_in y x ys xs (sym e) b.0 also) in
    ap (λ (w : ByteAt). w ∷ xs) e ∙ ap (λ (ws : List ByteAt). y ∷ ws) rest

-- ---- bytes that are laid out

-- those from the k-th on come at it or behind it, and before the end
record Within (low high : List ℕ) (at : ByteAt) : Type 0 where
  past : IsUpTo low at.address
  before : IsBefore at.address high

laid-within : (start : List ℕ) (low k high : ℕ) (bytes : List ℕ) → start ≢ [] → low ≤ k → k + length bytes ≤ high → All (Within (so_far_on start low) (so_far_on start high)) (laid_from start k bytes)
laid-within start low k high [] some le fits = All-nil (Within (so_far_on start low) (so_far_on start high))
laid-within start low k high (byte ∷ bytes) some le fits =
    All-cons (Within (so_far_on start low) (so_far_on start high)) (record { address = so_far_on start k; byte = byte }) (laid_from start (k + 1) bytes)
    (record { past = steps-up_to start low k some le; before = steps-before start k high some (omega (arith, fits)) })
    (laid-within start low (k + 1) high bytes some (omega (arith, le)) (omega (arith, fits)))

laid-ascends : (start : List ℕ) (k : ℕ) (bytes : List ℕ) → start ≢ [] → Ascends (laid_from start k bytes)
laid-ascends start k [] some = tt
laid-ascends start k (byte ∷ bytes) some = (
  All-weaker (Within (so_far_on start (k + 1)) (so_far_on start (k + 1 + length bytes))) (Before (record { address = so_far_on start k; byte = byte }))
      (λ at w. before_upto (so_far_on start k) (so_far_on start (k + 1)) at.address (steps-before start k (k + 1) some (omega arith)) w.past)
      (laid_from start (k + 1) bytes) (laid-within start (k + 1) (k + 1) (k + 1 + length bytes) bytes some (omega arith) (omega arith)),
  laid-ascends start (k + 1) bytes some,
)

ascends-append : (end : List ℕ) (xs ys : List ByteAt) → Ascends xs → Ascends ys → All (λ (x : ByteAt). IsBefore x.address end) xs → All (λ (y : ByteAt). IsUpTo end y.address) ys → Ascends (xs ++ ys)
ascends-append end [] ys a b before past = b
ascends-append end (x ∷ xs) ys a b before past =
    let here = All-head (λ (w : ByteAt). IsBefore w.address end) x xs before in (
      All-append (Before x) xs ys a.0 (All-weaker (λ (y : ByteAt). IsUpTo end y.address) (Before x) (λ y le. before_upto x.address end y.address here le) ys past),
      ascends-append end xs ys a.1 b (All-tail (λ (w : ByteAt). IsBefore w.address end) x xs before) past,
    )

abbrev ContentRow : Type 0
ContentRow = Row (ListView ℕ)

not_none : (front : List ℕ) (x : ℕ) (back : List ℕ) → front ++ x ∷ back ≢ []
not_none [] x back e = cc
not_none (y ∷ front) x back e = cc

leaf_placed : (row : ContentRow) → IsLeaf row → row.first ≢ []
leaf_placed row leaf none = not_none leaf.document 0 (1 ∷ leaf.address.number ∷ []) (sym leaf.address.parts ∙ none)

-- the bytes of a row are within it
row-within : (row : ContentRow) → IsLeaf row → All (Within row.first (end_of_row row)) (laid_row row)
row-within row leaf =
    subst (λ (low : List ℕ). All (Within low (end_of_row row)) (laid_row row)) (step-none row.first)
    (laid-within row.first 0 0 (length row.leaf.items) row.leaf.items (leaf_placed row leaf) (omega arith) (omega arith))

-- the bytes of rows that stand at an end or past it do too
rows-past : (end : List ℕ) (rows : List ContentRow) → All IsLeaf rows → All (λ (r : ContentRow). IsUpTo end r.first) rows → All (λ (y : ByteAt). IsUpTo end y.address) (laid_out rows)
rows-past end [] leaves past = All-nil (λ (y : ByteAt). IsUpTo end y.address)
rows-past end (row ∷ rows) leaves past =
    let here = All-head (λ (r : ContentRow). IsUpTo end r.first) row rows past in
    All-append (λ (y : ByteAt). IsUpTo end y.address) (laid_row row) (laid_out rows)
    (All-weaker (Within row.first (end_of_row row)) (λ (y : ByteAt). IsUpTo end y.address) (λ y w. upto_upto end row.first y.address here w.past) (laid_row row) (row-within row (All-head IsLeaf row rows leaves)))
    (rows-past end rows (All-tail IsLeaf row rows leaves) (All-tail (λ (r : ContentRow). IsUpTo end r.first) row rows past))

content-ascends : (rows : List ContentRow) → All IsLeaf rows → Linked end_of_row rows → Ascends (laid_out rows)
content-ascends [] leaves linked = tt
content-ascends (row ∷ rows) leaves linked =
    let leaf = All-head IsLeaf row rows leaves in
    let others = All-tail IsLeaf row rows leaves in
    ascends-append (end_of_row row) (laid_row row) (laid_out rows) (laid-ascends row.first 0 row.leaf.items (leaf_placed row leaf)) (content-ascends rows others linked.1)
    (All-weaker (Within row.first (end_of_row row)) (λ (x : ByteAt). IsBefore x.address (end_of_row row)) (λ x w. w.before) (laid_row row) (row-within row leaf)) (rows-past (end_of_row row) rows others linked.0)

pub same-in-order : (rows others : List ContentRow) → IsContent rows → IsContent others → IsPermutation (laid_out rows) (laid_out others) → laid_out rows ≡ laid_out others
same-in-order rows others one other moved =
    same_elements (laid_out rows) (laid_out others) (content-ascends rows one.leaves one.apart) (content-ascends others other.leaves other.apart) (λ z c. Contains-permutation (laid_out rows) (laid_out others) z moved c)
    (λ z c. Contains-permutation (laid_out others) (laid_out rows) z (IsPermutation-sym (laid_out rows) (laid_out others) moved) c)

pub ruleset in_order = (same-in-order)
