use Rattle.std.proofs.Common.{◌≡◌, ◌+◌, ◌-◌, length}
use Rattle.world_rules.specs.Relation.{reach}
use Rattle.flat_rows.proofs.relation.reach.Given as goal

abbrev pub invariant-loop : goal.invariant-loop
invariant-loop l = l.length + reach l.pairs (length l.pairs - l.counter) l.pair ≡ reach l.pairs (length l.pairs) l.fn.start
