use Rattle.std.proofs.Common.{◌≡◌, map, take}
use Rattle.page_tables.specs.Plain.{plain_link}
use Rattle.paged_world.proofs.comparing.same_links.Given as goal

abbrev pub invariant-loop-k : goal.invariant-loop-k
invariant-loop-k l = map plain_link (take l.k l.one) ≡ map plain_link (take l.k l.other)
