use Rattle.std.proofs.Common.{◌-◌}
use Rattle.enfilade_core.proofs.ExchangeChosen.{ChosenBetween}
use Rattle.enfilade_core.proofs.arena.Arena.chosen_in_front.Given as goal

abbrev pub invariant-loop-low : goal.invariant-loop-low
invariant-loop-low g l = ChosenBetween l.self l.branches l.at l.low l.high

abbrev pub decreases-loop-low : goal.decreases-loop-low
decreases-loop-low g l = l.high - l.low
