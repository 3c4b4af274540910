use Rattle.std.proofs.Common.{◌≡◌, take}
use Rattle.green_top.specs.Summary.{replies_sum}
use Rattle.green_top.proofs.summary.sum_of.Given as goal

abbrev pub invariant-loop-byte : goal.invariant-loop-byte
invariant-loop-byte l = l.sum ≡ replies_sum (take l.byte-index l.bytes)
