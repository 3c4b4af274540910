use Rattle.std.proofs.Common.{◌<◌, length}
use Rattle.std.specs.Prelude.{All}
use Rattle.enfilade_core.specs.declared.tree.Node.{Node}
use Rattle.enfilade_tests.proofs.swept.times.Given as goal

abbrev pub invariant-loop : goal.invariant-loop
invariant-loop l = All (λ (node : Node). node.0 < length l.arena) l.roots.items
