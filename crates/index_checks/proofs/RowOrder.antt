-- The order of rows is total, and rows that tie are the same.
use Rattle.std.proofs.Common.{◌≡◌, ℕ, List, refl, sym, ◌∙◌, ap}
use Rattle.std.specs.Cmp.{IsTotalOrder, IsStrictWeakOrder}
use Rattle.std.specs.Ordering.{nat_cmp, ordering_then}
use Rattle.std.specs.Cmp.Lexicographic.{slice_cmp}
use Rattle.std.specs.List.Sorted.{IsPermutation}
use Rattle.std.specs.declared.cmp.Ordering.{Ordering}
use Rattle.std.specs.declared.cmp.Ordering.TheVariants.{Less, Equal, Greater}
use Rattle.std.proofs.lemmas.Cmp.{nat_list_cmp_total, on_total, then_total}
use Rattle.std.proofs.lemmas.List.Sorted.{ranks_by}
use Rattle.tumbler.proofs.Order.{same_if_tied}
use Rattle.enfilade_core.specs.declared.tree.Row.{Row}
use Rattle.index_checks.specs.inside.Order.{row_cmp, is_row_before, AreSorted}
use Rattle.index_checks.proofs.SortedSame.{Ascends, in_order_if_sorted, same_in_order, have_same_if_moved}

pub rows_total : IsTotalOrder row_cmp
rows_total =
    then_total (on_total (λ (r : Row (List ℕ)). r.second) nat_list_cmp_total)
    (then_total (on_total (λ (r : Row (List ℕ)). r.first) nat_list_cmp_total) (on_total (λ (r : Row (List ℕ)). r.leaf) nat_list_cmp_total))

pub rows_rank : IsStrictWeakOrder is_row_before
rows_rank = ranks_by rows_total (λ (r : Row (List ℕ)). r)

both_tied : (a b : Ordering) → ordering_then a b ≡ Equal → (a ≡ Equal) × (b ≡ Equal)
both_tied Less b e = cc
both_tied Equal b e = (refl, e)
both_tied Greater b e = cc

pub rows_same_if_tied : (a b : Row (List ℕ)) → row_cmp a b ≡ Equal → a ≡ b
rows_same_if_tied a b e =
    let second = both_tied (slice_cmp nat_cmp a.second b.second) (ordering_then (slice_cmp nat_cmp a.first b.first) (slice_cmp nat_cmp a.leaf b.leaf)) e in
    let first = both_tied (slice_cmp nat_cmp a.first b.first) (slice_cmp nat_cmp a.leaf b.leaf) second.1 in
    let key = same_if_tied a.second b.second second.0 in
    let start = same_if_tied a.first b.first first.0 in
    let width = same_if_tied a.leaf b.leaf first.1 in
    (λ i. record { first = start i; second = key i; leaf = width i })

-- the same rows, sorted, are the same list
pub sorted_are_same : (a b : List (Row (List ℕ))) → AreSorted a → AreSorted b → IsPermutation a b → a ≡ b
sorted_are_same a b up_a up_b moved =
    same_in_order row_cmp rows_total rows_same_if_tied a b (in_order_if_sorted row_cmp rows_rank a up_a) (in_order_if_sorted row_cmp rows_rank b up_b) (have_same_if_moved a b moved)
