use Rattle.std.proofs.Common.{All, take}
use Rattle.links.specs.LinkLists.{IsRun}
use Rattle.tree_world.proofs.link_making.are_runs.Given as goal

abbrev pub invariant-loop-run : goal.invariant-loop-run
invariant-loop-run l = All IsRun (take l.run-index l.runs)
