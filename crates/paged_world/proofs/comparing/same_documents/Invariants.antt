use Rattle.std.proofs.Common.{◌≡◌, map, take}
use Rattle.paged_world.specs.inside.Same.{without_root}
use Rattle.paged_world.proofs.comparing.same_documents.Given as goal

abbrev pub invariant-loop-k : goal.invariant-loop-k
invariant-loop-k l = map without_root (take l.k l.one) ≡ map without_root (take l.k l.other)
