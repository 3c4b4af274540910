use Rattle.std.proofs.Common.{◌↔◌, drop}
use Rattle.tumbler.specs.Reach.{HasRoom}
use Rattle.tumbler.proofs.arithmetic.room_for.Given as goal

abbrev pub invariant-loop-k : goal.invariant-loop-k
invariant-loop-k l = HasRoom (drop l.k l.a) (drop l.k l.reach) ↔ HasRoom l.a l.reach
