use Rattle.std.proofs.Common.{◌≡◌, take}
use Rattle.std.specs.List.{flat_map}
use Rattle.links.specs.inside.Kept.{taken_at}
use Rattle.links.proofs.finding.found_among.Given as goal

abbrev pub invariant-loop-id : goal.invariant-loop-id
invariant-loop-id l = l.found.items ≡ take l.limit (flat_map (taken_at l.table l.homes l.ends l.after) (take l.id-index l.ids))
