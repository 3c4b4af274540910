use Rattle.std.proofs.Common.{◌≡◌, ◌+◌, ◌*◌, ◌++◌, take}
use Rattle.std.specs.List.{flat_map}
use Rattle.enfilade_search.proofs.Children.{child_rows}
use Rattle.granfilade.specs.Content.{content}
use Rattle.tree_world.specs.inside.Wanted.{bytes_between}
use Rattle.tree_world.proofs.text_reading.+below.Given as goal

abbrev pub decreases-append_node : goal.decreases-append_node
decreases-append_node l = 2 * l.node.0

abbrev pub decreases-append_child : goal.decreases-append_child
decreases-append_child l = 2 * l.child.now.node.0 + 1

abbrev pub invariant-append_node-loop-child : goal.invariant-append_node-loop-child
invariant-append_node-loop-child l = l.into.items ≡ l.initial.into.items ++ bytes_between (content l.contents) l.wanted.from l.wanted.to (flat_map (child_rows l.arena l.first l.second) (take l.child-index l.children))
