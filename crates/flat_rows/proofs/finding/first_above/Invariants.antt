use Rattle.std.proofs.Common.{◌≡◌, take, All}
use Rattle.std.specs.Prelude.{filter}
use Rattle.std.specs.Ordering.{nat_cmp, is_lt}
use Rattle.std.specs.Cmp.Lexicographic.{slice_cmp}
use Rattle.tumbler.specs.Places.{IsTumbler}
use Rattle.flat_rows.proofs.finding.first_above.Given as goal

abbrev pub invariant-loop-tumbler : goal.invariant-loop-tumbler
invariant-loop-tumbler l = (l.made.items ≡ filter (λ tumbler. is_lt (slice_cmp nat_cmp l.bound tumbler)) (take l.tumbler-index l.tumblers)) × All IsTumbler l.made.items
