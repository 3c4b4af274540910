use Rattle.std.proofs.Common.{◌≡◌, take}
use Rattle.tumbler.specs.Reach.{greater}
use Rattle.tumbler.proofs.LeadingZeros.{AreZero}
use Rattle.tumbler.proofs.places.Places.raise_by_moved.Given as goal

abbrev pub invariant-loop-k : goal.invariant-loop-k
invariant-loop-k l = record {
  raised : l.self ≡ greater l.initial.self (take l.k l.reach-inside.cells);
  zeros : AreZero l.d-inside.cells l.k;
}
