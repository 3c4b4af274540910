use Rattle.std.proofs.Common.{◌≡◌, rules}
use Rattle.std.specs.Ordering.{is_lt}
use Rattle.std.proofs.lemmas.Fn.{always_returns_same}
use Rattle.index_checks.specs.inside.Order.{is_row_before}
use Rattle.index_checks.proofs.RowOrder.{rows_rank}
use Rattle.index_checks.proofs.sorting.sorted_rows.Goals as goal

pub returns-clause-sorted : goal.returns-clause-sorted
returns-clause-sorted c =
    c.in_ok-sort_by.ensures.sorted is_row_before rows_rank (always_returns_same _ (λ a r. is_lt r ≡ is_row_before a.0.now a.1.0.now) _ (λ a r q k. search rules))
