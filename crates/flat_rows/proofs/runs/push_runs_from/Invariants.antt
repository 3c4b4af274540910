use Rattle.std.proofs.Common.{◌≡◌, ◌++◌, drop, map}
use Rattle.world_rules.specs.Picking.{is_next_byte, stretches_on, run_of}
use Rattle.flat_rows.proofs.runs.push_runs_from.Given as goal

abbrev pub invariant-loop-address : goal.invariant-loop-address
invariant-loop-address l = l.made.items ++ map (run_of l.origin) (stretches_on is_next_byte l.begin l.last l.count (drop l.address-index l.rest)) ≡ l.initial.made.items ++ map (run_of l.origin) (stretches_on is_next_byte l.first l.first 1 l.rest)
