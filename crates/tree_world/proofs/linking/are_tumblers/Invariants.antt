use Rattle.std.proofs.Common.{All, take}
use Rattle.tumbler.specs.Places.{IsTumbler}
use Rattle.tree_world.proofs.linking.are_tumblers.Given as goal

abbrev pub invariant-loop-tumbler : goal.invariant-loop-tumbler
invariant-loop-tumbler l = All IsTumbler (take l.tumbler-index l.tumblers)
