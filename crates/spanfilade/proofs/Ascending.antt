-- Keys in ascending order, each once: they are settled by which keys there are.
use Rattle.std.proofs.Common.{◌≡◌, ℕ, Bool, ◌||◌, List, []}
use Rattle.std.specs.List.{list_any}
use Rattle.std.specs.List.Sorted.{IsStrictlySortedBy}
use Rattle.std.specs.Ordering.{nat_cmp}
use Rattle.std.specs.Cmp.Lexicographic.{slice_cmp}
use Rattle.std.specs.BTreeMap.{is_at}
use Rattle.std.proofs.lemmas.Cmp.{nat_list_cmp_total}
use Rattle.tumbler.proofs.Order.{same_if_tied}
use Rattle.tumbler.proofs.InOrder as in_order
use Rattle.spanfilade.specs.Keys.{with_keys}

-- whether a key is one of some
abbrev pub among : List ℕ → List (List ℕ) → Bool
among q keys = list_any (is_at (slice_cmp nat_cmp q)) keys

pub with_keys-among : (more keys : List (List ℕ)) (q : List ℕ) → among q (with_keys keys more) ≡ (among q keys || among q more)
with_keys-among more keys q = in_order.any_more (slice_cmp nat_cmp) same_if_tied (is_at (slice_cmp nat_cmp q)) more keys

pub with_keys-ascends : (more keys : List (List ℕ)) → IsStrictlySortedBy (slice_cmp nat_cmp) keys → IsStrictlySortedBy (slice_cmp nat_cmp) (with_keys keys more)
with_keys-ascends more keys ascend = in_order.more_ascend (slice_cmp nat_cmp) nat_list_cmp_total more keys ascend

pub none_ascends : IsStrictlySortedBy (slice_cmp nat_cmp) []
none_ascends = in_order.none_ascend (slice_cmp nat_cmp)

-- the same keys, in whatever order they come in
pub same_keys : (some others : List (List ℕ)) → ((q : List ℕ) → among q some ≡ among q others) → with_keys [] some ≡ with_keys [] others
same_keys some others same = in_order.same_keys (slice_cmp nat_cmp) same_if_tied nat_list_cmp_total some others same
