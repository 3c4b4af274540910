-- Contents ascend, and so do the bytes that documents list.
use Rattle.std.proofs.Common.{◌≡◌, ◌∙◌, ◌⊎◌, ℕ, zero, suc, ◌+◌, ◌<◌, List, [], ◌∷◌, ◌++◌, length, map, refl, sym, ap, subst, arith, inl, inr, Less}
use Rattle.std.specs.List.{All, AllByRecursion}
use Rattle.std.specs.List.Sorted.{IsStrictlySortedBy}
use Rattle.std.specs.Ordering.{nat_cmp}
use Rattle.std.specs.Cmp.Lexicographic.{slice_cmp}
use Rattle.std.proofs.lemmas.List.Elements.{All-head, All-tail}
use Rattle.tumbler.specs.Address.{IsDocument}
use Rattle.tumbler.specs.Places.{IsBefore, IsUpTo}
use Rattle.tumbler.proofs.Order.{before_upto, never_before_itself}
use Rattle.granfilade.specs.Content.{ByteAt}
use Rattle.poom.specs.Pieces.{address_in, addresses_from}
use Rattle.tree_world.proofs.Ordered.{IsBehind, Ascend}
use Rattle.tree_world.proofs.Places.{one_way, two_zeros}
use Rattle.tree_world.proofs.Within.{bytes_before}
use Rattle.page_tables.specs.declared.tables.TableDocument.{TableDocument}
use Rattle.table_checks.specs.TableRows.{addresses_of}
use Rattle.table_checks.proofs.HomeOrder.{homes_ascend}
use Rattle.content_checks.specs.Listed.{bytes_of, listed_bytes}
use Rattle.world_pages.proofs.Listed.{Rise}

-- all of these come after it
abbrev AreBehind : List ℕ → List (List ℕ) → Type 0
AreBehind x ys = AllByRecursion (λ y. slice_cmp nat_cmp x y ≡ Less) ys

-- ---- contents

all_behind : (x : ByteAt) (xs : List ByteAt) → AllByRecursion (IsBehind x) xs → AreBehind x.address (map (λ (at : ByteAt). at.address) xs)
all_behind x [] all = tt
all_behind x (y ∷ xs) all = (all.0, all_behind x xs all.1)

pub addresses_rise : (xs : List ByteAt) → Ascend xs → Rise (map (λ (at : ByteAt). at.address) xs)
unfolding IsStrictlySortedBy
addresses_rise [] up = tt
addresses_rise (x ∷ xs) up = (all_behind x xs up.0, addresses_rise xs up.1)

-- ---- lists one after another

behind_joined : (x : List ℕ) (xs ys : List (List ℕ)) → AreBehind x xs → AreBehind x ys → AreBehind x (xs ++ ys)
behind_joined x [] ys a b = b
behind_joined x (y ∷ xs) ys a b = (a.0, behind_joined x xs ys a.1 b)

rise_joined : (xs ys : List (List ℕ)) → Rise xs → Rise ys → AllByRecursion (λ x. AreBehind x ys) xs → Rise (xs ++ ys)
unfolding IsStrictlySortedBy
rise_joined [] ys a b c = b
rise_joined (x ∷ xs) ys a b c = (behind_joined x xs ys a.0 c.0, rise_joined xs ys a.1 b c.1)

-- ---- bytes of one document

one_behind : (d : List ℕ) (m n count : ℕ) → m < n → AreBehind (address_in 1 d m) (addresses_from 1 d n count)
one_behind d m n zero lt = tt
one_behind d m n (suc count) lt = (bytes_before d m n lt, one_behind d m (n + 1) count (omega (arith, lt)))

one_rises : (d : List ℕ) (first count : ℕ) → Rise (addresses_from 1 d first count)
unfolding IsStrictlySortedBy
one_rises d first zero = tt
one_rises d first (suc count) = (one_behind d first (first + 1) count (omega arith), one_rises d (first + 1) count)

-- ---- bytes of two

-- with a 0 behind it, and whatever behind that, one comes before the other
abbrev ComesBefore : List ℕ → List ℕ → Type 0
ComesBefore a b = (s t : List ℕ) → IsBefore (a ++ 0 ∷ s) (b ++ 0 ∷ t)

other_behind : (d other : List ℕ) (m n : ℕ) → IsDocument d → IsDocument other → IsBefore d other → IsBefore (address_in 1 d m) (address_in 1 other n)
other_behind d other m n is is' less = by_order (one_way d other (two_zeros d is ∙ sym (two_zeros other is')))
  where
    by_order : (d ≡ other) ⊎ (ComesBefore d other ⊎ ComesBefore other d) → IsBefore (address_in 1 d m) (address_in 1 other n)
    by_order (inl same) = absurd (never_before_itself other (subst (λ (x : List ℕ). IsBefore x other) same less))
    by_order (inr (inl before)) = before (1 ∷ m ∷ []) (1 ∷ n ∷ [])
    by_order (inr (inr after)) = absurd (never_before_itself d (before_upto d other d less (homes_ascend other d n m is' is (after (2 ∷ n ∷ []) (2 ∷ m ∷ [])))))

-- all bytes of documents behind this one come after its bytes
bytes_behind : (d other : List ℕ) (m n count : ℕ) → IsDocument d → IsDocument other → IsBefore d other → AreBehind (address_in 1 d m) (addresses_from 1 other n count)
bytes_behind d other m n zero is is' less = tt
bytes_behind d other m n (suc count) is is' less = (other_behind d other m n is is' less, bytes_behind d other m (n + 1) count is is' less)

rest_behind : (d : List ℕ) (m : ℕ) (rows : List TableDocument) → IsDocument d → All (λ (row : TableDocument). IsDocument row.document) rows → AreBehind d (addresses_of rows) → AreBehind (address_in 1 d m) (listed_bytes rows)
rest_behind d m [] is are after = tt
rest_behind d m (row ∷ rows) is are after =
    behind_joined (address_in 1 d m) (bytes_of row) (listed_bytes rows) (bytes_behind d row.document m 1 row.content is (All-head (λ (r : TableDocument). IsDocument r.document) row rows are) after.0)
    (rest_behind d m rows is (All-tail (λ (r : TableDocument). IsDocument r.document) row rows are) after.1)

each_behind : (d : List ℕ) (first count : ℕ) (rows : List TableDocument) → IsDocument d → All (λ (row : TableDocument). IsDocument row.document) rows → AreBehind d (addresses_of rows)
    → AllByRecursion (λ x. AreBehind x (listed_bytes rows)) (addresses_from 1 d first count)
each_behind d first zero rows is are after = tt
each_behind d first (suc count) rows is are after = (rest_behind d first rows is are after, each_behind d (first + 1) count rows is are after)

pub listed_rise : (rows : List TableDocument) → All (λ (row : TableDocument). IsDocument row.document) rows → Rise (addresses_of rows) → Rise (listed_bytes rows)
unfolding IsStrictlySortedBy
listed_rise [] are up = tt
listed_rise (row ∷ rows) are up =
    let is = All-head (λ (r : TableDocument). IsDocument r.document) row rows are in
    let rest = All-tail (λ (r : TableDocument). IsDocument r.document) row rows are in
    rise_joined (bytes_of row) (listed_bytes rows) (one_rises row.document 1 row.content) (listed_rise rows rest up.1) (each_behind row.document 1 row.content rows is rest up.0)
