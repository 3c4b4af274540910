use Rattle.std.proofs.Common.{rules}
use Rattle.std.proofs.lemmas.List.Sorted.{IsNonDecreasingBy-from_sort_by_key}
use Rattle.poom_compare.specs.Segments.{by_difference}
use Rattle.poom_compare.proofs.comparing.sort_by_difference.Goals as goal

pub returns-clause-sorted : goal.returns-clause-sorted
returns-clause-sorted c = IsNonDecreasingBy-from_sort_by_key by_difference _ c.in_ok-sort_by_key.ensures.sorted (λ a r q k. search rules)
