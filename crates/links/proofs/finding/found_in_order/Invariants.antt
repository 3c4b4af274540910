use Rattle.std.proofs.Common.{◌≡◌, take}
use Rattle.std.specs.List.{flat_map}
use Rattle.links.specs.inside.Kept.{shown, taken}
use Rattle.links.proofs.finding.found_in_order.Given as goal

abbrev pub invariant-loop-link : goal.invariant-loop-link
invariant-loop-link l = l.found.items ≡ take l.limit (flat_map (λ boxed. taken l.homes l.ends l.after (shown boxed)) (take l.link-index l.links))
