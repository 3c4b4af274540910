use Rattle.std.proofs.Common.{◌≡◌, ◌++◌, take}
use Rattle.tree_world.proofs.picking.push_runs.Given as goal

abbrev pub invariant-loop-run : goal.invariant-loop-run
invariant-loop-run l = l.made.items ≡ l.initial.made.items ++ take l.run-index l.runs
