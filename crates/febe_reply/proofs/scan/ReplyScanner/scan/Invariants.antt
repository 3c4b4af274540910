use Rattle.std.proofs.Common.{◌≡◌, ◌-◌, ◌≤◌, length}
use Rattle.febe_fields.specs.Scanning.{behind, scan}
use Rattle.febe_reply.specs.inside.ReplyMachine.{state_of, reply_step}
use Rattle.febe_reply.proofs.scan.ReplyScanner.scan.Given as goal

abbrev pub invariant-loop-rest : goal.invariant-loop-rest
invariant-loop-rest l = record {
  total : scan reply_step (state_of l.self) l.bytes ≡ behind (length l.bytes - length l.rest) (scan reply_step (state_of l.scanner) l.rest);
  within : length l.rest ≤ length l.bytes;
}

abbrev pub decreases-loop-rest : goal.decreases-loop-rest
decreases-loop-rest l = length l.rest
