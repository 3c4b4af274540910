use Rattle.std.proofs.Common.{◌≡◌, take}
use Rattle.std.specs.List.{sum_by}
use Rattle.febe_data.specs.declared.run.Run.{Run}
use Rattle.tree_world.proofs.indexing.total_bytes.Given as goal

abbrev pub invariant-loop-run : goal.invariant-loop-run
invariant-loop-run l = l.total ≡ sum_by (λ (run : Run). run.length) (take l.run-index l.runs)
