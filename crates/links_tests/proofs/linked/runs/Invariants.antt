use Rattle.std.specs.List.{All}
use Rattle.links.specs.LinkLists.{IsRun}
use Rattle.links_tests.proofs.linked.runs.Given as goal

abbrev pub invariant-loop-bytes : goal.invariant-loop-bytes
invariant-loop-bytes g l = All IsRun l.made.items
