use Rattle.std.proofs.Common.{◌≡◌}
use Rattle.session_generator.specs.Generated.{letters}
use Rattle.session_generator.proofs.generating.letters.Given as goal

abbrev pub invariant-loop-m : goal.invariant-loop-m
invariant-loop-m l = l.text.items ≡ letters l.k l.m
