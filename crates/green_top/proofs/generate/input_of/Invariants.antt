use Rattle.std.proofs.Common.{◌≡◌}
use Rattle.green_top.proofs.Generateds.{spelled_up_to}
use Rattle.green_top.proofs.generate.input_of.Given as goal

abbrev pub invariant-loop-request : goal.invariant-loop-request
invariant-loop-request l = l.input.items ≡ spelled_up_to l.request-items l.request-index
