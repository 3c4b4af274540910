use Rattle.std.proofs.Common.{◌≡◌, ◌+◌, ◌*◌, ◌++◌, take, map}
use Rattle.std.specs.List.{filter, flat_map}
use Rattle.enfilade_core.specs.Plain.{plain_row}
use Rattle.enfilade_search.specs.Sought.{is_sought}
use Rattle.enfilade_search.proofs.Children.{child_rows}
use Rattle.enfilade_search.proofs.gather.+below.Given as goal

abbrev pub decreases-gather : goal.decreases-gather
decreases-gather g l = 2 * l.node.0

abbrev pub decreases-gather_child : goal.decreases-gather_child
decreases-gather_child g l = 2 * l.child.now.node.0 + 1

abbrev pub invariant-gather-loop-child : goal.invariant-gather-loop-child
invariant-gather-loop-child g l = map (plain_row g.P.Plane.plain) l.out.items ≡ map (plain_row g.P.Plane.plain) l.initial.out.items ++ filter (is_sought g.P.Plane.widths l.sought) (flat_map (child_rows l.arena l.first l.second) (take l.child-index l.children))
