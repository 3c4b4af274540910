use Rattle.std.proofs.Common.{◌≡◌, map, take}
use Rattle.world_rules.specs.Refusals.{position_of}
use Rattle.world_rules.proofs.effects.positions_of.Given as goal

abbrev pub invariant-loop-cut : goal.invariant-loop-cut
invariant-loop-cut l = l.positions.items ≡ map position_of (take l.cut-index l.cuts)
