use Rattle.std.proofs.Common.{◌+◌, ◌*◌, ◌++◌, take, map}
use Rattle.std.specs.List.{filter, flat_map}
use Rattle.enfilade_core.specs.Plain.{plain_row}
use Rattle.enfilade_search.specs.Sought.{is_sought}
use Rattle.enfilade_search.specs.Limits.{HoldsUpTo}
use Rattle.enfilade_search.proofs.Children.{child_rows}
use Rattle.enfilade_search.proofs.bounded.+below.Given as goal

abbrev pub decreases-gather_up_to : goal.decreases-gather_up_to
decreases-gather_up_to g l = 2 * l.node.0

abbrev pub decreases-gather_child_up_to : goal.decreases-gather_child_up_to
decreases-gather_child_up_to g l = 2 * l.child.now.node.0 + 1

abbrev pub invariant-gather_up_to-loop-child : goal.invariant-gather_up_to-loop-child
invariant-gather_up_to-loop-child g l =
    HoldsUpTo l.limit (map (plain_row g.P.Plane.plain) l.initial.out.items ++ filter (is_sought g.P.Plane.widths l.sought) (flat_map (child_rows l.arena l.first l.second) (take l.child-index l.children))) (map (plain_row g.P.Plane.plain) l.out.items)
