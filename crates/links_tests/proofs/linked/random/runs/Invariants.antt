use Rattle.std.specs.List.{All}
use Rattle.links.specs.LinkLists.{IsRun}
use Rattle.links_tests.proofs.linked.random.runs.Given as goal

abbrev pub invariant-loop-part : goal.invariant-loop-part
invariant-loop-part g l = All IsRun l.made.items
