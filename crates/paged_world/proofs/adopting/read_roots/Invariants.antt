use Rattle.std.proofs.Common.{◌≡◌, map, take}
use Rattle.paged_world.specs.inside.Same.{root_of_row}
use Rattle.paged_world.proofs.adopting.read_roots.Given as goal

abbrev pub invariant-loop-row : goal.invariant-loop-row
invariant-loop-row l = l.made.items ≡ map root_of_row (take l.row-index l.rows)
