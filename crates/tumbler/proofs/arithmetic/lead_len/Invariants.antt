use Rattle.std.proofs.Common.{◌≡◌, ◌++◌, take, drop}
use Rattle.tumbler.specs.Reach.{lead}
use Rattle.tumbler.proofs.arithmetic.lead_len.Given as goal

abbrev pub invariant-loop-k : goal.invariant-loop-k
invariant-loop-k l = take l.k l.places ++ lead (drop l.k l.places) ≡ lead l.places
