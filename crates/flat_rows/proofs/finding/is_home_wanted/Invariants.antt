use Rattle.std.proofs.Common.{◌≡◌, drop}
use Rattle.std.specs.List.{list_any}
use Rattle.world_rules.specs.Finding.{is_in_span}
use Rattle.flat_rows.proofs.finding.is_home_wanted.Given as goal

abbrev pub invariant-loop-span : goal.invariant-loop-span
invariant-loop-span l = list_any (λ span. is_in_span span l.home) (drop l.span-index l.homes) ≡ list_any (λ span. is_in_span span l.home) l.homes
