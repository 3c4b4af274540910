use Rattle.std.proofs.Common.{◌-◌, length, drop}
use Rattle.node_pages.specs.NodeBytes.{node_bytes, IsNode}
use Rattle.disk_fields.proofs.Written.{AreToCome}
use Rattle.node_pages.proofs.streams.append_nodes.Given as goal

abbrev pub invariant-loop-node : goal.invariant-loop-node
invariant-loop-node g l = AreToCome (IsNode g.P.PagedPlane.is_row) (node_bytes g.P.PagedPlane.row_bytes) l.initial.out.items l.out.items (drop l.from l.arena) (drop l.number l.arena)

abbrev pub decreases-loop-node : goal.decreases-loop-node
decreases-loop-node g l = length l.arena - l.number
