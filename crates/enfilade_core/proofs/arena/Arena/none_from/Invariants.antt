use Rattle.std.proofs.Common.{◌<◌, ◌-◌}
use Rattle.enfilade_core.proofs.ExchangeChosen.{ChosenBetween}
use Rattle.enfilade_core.proofs.arena.Arena.none_from.Given as goal

abbrev pub invariant-loop-near : goal.invariant-loop-near
invariant-loop-near g l = record {
  some : l.near < l.far;
  none : ChosenBetween l.self l.branches l.at 0 l.far;
}

abbrev pub decreases-loop-near : goal.decreases-loop-near
decreases-loop-near g l = l.far - l.near
