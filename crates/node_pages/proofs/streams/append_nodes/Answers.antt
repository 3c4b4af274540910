use Rattle.std.proofs.Common.{[], drop, ap, ◌∙◌}
use Rattle.enfilade_core.specs.Rows.{Rows, node_at}
use Rattle.enfilade_core.specs.Plain.{shape}
use Rattle.node_pages.specs.NodeBytes.{node_bytes, IsNode}
use Rattle.disk_fields.proofs.Written.{all_to_come, fewer_to_come, none_to_come}
use Rattle.node_pages.proofs.streams.append_nodes.Goals as goal

pub loop-node-init : goal.loop-node-init
loop-node-init g c = all_to_come (IsNode g.P.PagedPlane.is_row) (node_bytes g.P.PagedPlane.row_bytes) c.args.out.now.items (drop c.args.from c.args.arena.now)

pub loop-node-preserved : goal.loop-node-preserved
loop-node-preserved g c =
    fewer_to_come (IsNode g.P.PagedPlane.is_row) (node_bytes g.P.PagedPlane.row_bytes) _ _ _ _ c.args.arena.now c.loop-node.number (shape g.P.Plane.plain c.node-children.result.now) (Rows [])
    c.in-Some.ensures.found.1 (c.node-children.ensures ∙ ap (node_at c.args.arena.now) c.in-Some.ensures.found.0) c.loop-node.invariant c.in_ok-append_children.ensures.spelled c.in_ok-append_children.ensures.right

pub returns-clause-spelled : goal.returns-clause-spelled
returns-clause-spelled g c =
    (none_to_come (IsNode g.P.PagedPlane.is_row) (node_bytes g.P.PagedPlane.row_bytes) _ _ _ c.args.arena.now c.loop-node.number c.in_default.ensures.none c.loop-node.invariant).0

pub returns-clause-right : goal.returns-clause-right
returns-clause-right g c =
    (none_to_come (IsNode g.P.PagedPlane.is_row) (node_bytes g.P.PagedPlane.row_bytes) _ _ _ c.args.arena.now c.loop-node.number c.in_default.ensures.none c.loop-node.invariant).1
