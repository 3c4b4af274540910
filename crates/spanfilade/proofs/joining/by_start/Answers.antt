use Rattle.std.proofs.Common.{◌≡◌, rules}
use Rattle.std.specs.Ordering.{is_lt}
use Rattle.std.proofs.lemmas.Fn.{always_returns_same}
use Rattle.spanfilade.proofs.ApartSpans.{starts_before, starts_rank, by_start_if}
use Rattle.spanfilade.proofs.joining.by_start.Goals as goal

pub returns-clause-sorted : goal.returns-clause-sorted
returns-clause-sorted c =
    by_start_if c.sort_by.new.self.items (c.in_ok-sort_by.ensures.sorted starts_before starts_rank (always_returns_same _ (λ a r. is_lt r ≡ starts_before a.0.now a.1.0.now) _ (λ a r q k. search rules)))
