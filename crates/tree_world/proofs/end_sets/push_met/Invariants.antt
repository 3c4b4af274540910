use Rattle.std.proofs.Common.{◌≡◌, ℕ, ◌||◌, All, take}
use Rattle.std.specs.List.{list_any}
use Rattle.poom_compare.specs.Placed.{is_in_some, IsInterval}
use Rattle.tree_world.specs.inside.InEnds.{is_met_at}
use Rattle.tree_world.proofs.end_sets.push_met.Given as goal

abbrev pub invariant-loop-interval : goal.invariant-loop-interval
invariant-loop-interval l =
    All (IsInterval 1073741824) l.made.items
    × ((n : ℕ) → is_in_some l.made.items n ≡ (is_in_some l.fn.made.items n || list_any (λ interval. is_met_at l.placed interval n) (take l.interval-index l.numbers)))
