use Rattle.std.proofs.Common.{◌≡◌, ℕ, List, ◌++◌, ◌-◌, ◌≤◌, length}
use Rattle.febe_fields.specs.Scanning.{behind, scan}
use Rattle.febe_wire.specs.RequestMachine.{state_of, request_step}
use Rattle.febe_wire.proofs.scan.RequestScanner.scan.Given as goal

abbrev pub invariant-loop-rest : goal.invariant-loop-rest
invariant-loop-rest l = record {
  total : (more : List ℕ) → scan request_step (state_of l.initial.self) (l.bytes ++ more) ≡ behind (length l.bytes - length l.rest) (scan request_step (state_of l.self) (l.rest ++ more));
  within : length l.rest ≤ length l.bytes;
}

abbrev pub decreases-loop-rest : goal.decreases-loop-rest
decreases-loop-rest l = length l.rest
