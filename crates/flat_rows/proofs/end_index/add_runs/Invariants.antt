use Rattle.std.proofs.Common.{take}
use Rattle.world_rules.specs.Picking.{is_in_runs}
use Rattle.flat_rows.specs.EndIndex.{IndexesMore}
use Rattle.flat_rows.proofs.end_index.add_runs.Given as goal

abbrev pub invariant-loop-run : goal.invariant-loop-run
invariant-loop-run l = IndexesMore (is_in_runs (take l.run-index l.runs)) l.initial.index l.index
