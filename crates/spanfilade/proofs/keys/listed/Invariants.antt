use Rattle.std.proofs.Common.{◌≡◌, ◌++◌}
use Rattle.spanfilade.proofs.keys.listed.Given as goal

abbrev pub invariant-loop-key : goal.invariant-loop-key
invariant-loop-key l = l.made.items ++ l.key-iterator ≡ l.keys.keys
