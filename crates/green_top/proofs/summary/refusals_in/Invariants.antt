use Rattle.std.proofs.Common.{◌≤◌, ◌<◌, ◌+◌, length, All}
use Rattle.green_top.proofs.Replying.{Counted}
use Rattle.green_top.proofs.summary.refusals_in.Given as goal

abbrev pub invariant-reading : goal.invariant-reading
invariant-reading l = record {
  counted : Counted l.fn.bytes l.rest l.count;
  are_bytes : All (λ b. b < 256) l.rest;
  few : l.count + length l.rest ≤ length l.fn.bytes;
}

abbrev pub decreases-reading : goal.decreases-reading
decreases-reading l = length l.rest
