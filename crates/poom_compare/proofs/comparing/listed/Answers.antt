use Rattle.std.proofs.Common.{◌≡◌, ◌∙◌, sym, subst, rules}
use Rattle.std.specs.List.Sorted.{IsPermutation, IsNonDecreasingBy}
use Rattle.std.proofs.lemmas.List.{take_all}
use Rattle.std.proofs.lemmas.List.Sorted.{IsNonDecreasingBy-from_sort_by_key}
use Rattle.poom_compare.specs.Segments.{by_left}
use Rattle.poom_compare.proofs.comparing.listed.Goals as goal

pub returns-clause-moved : goal.returns-clause-moved
returns-clause-moved c =
    let is : c.loop-diagonal.made.items ≡ c.sort_by_key.new.self.items =
    c.loop-diagonal.invariant ∙ (take_all c.loop-diagonal.diagonal-index c.as_slice-diagonal-items.result.now c.loop-diagonal-test.false ∙ c.as_slice-diagonal-items.ensures.value) in
    subst (IsPermutation c.args.diagonals.items) (sym is) c.in_ok-sort_by_key.ensures.permutation

pub returns-clause-sorted : goal.returns-clause-sorted
returns-clause-sorted c =
    let is : c.loop-diagonal.made.items ≡ c.sort_by_key.new.self.items =
    c.loop-diagonal.invariant ∙ (take_all c.loop-diagonal.diagonal-index c.as_slice-diagonal-items.result.now c.loop-diagonal-test.false ∙ c.as_slice-diagonal-items.ensures.value) in
    subst (IsNonDecreasingBy by_left) (sym is) (IsNonDecreasingBy-from_sort_by_key by_left c.sort_by_key.new.self.items c.in_ok-sort_by_key.ensures.sorted (λ a r q k. search rules))
