use Rattle.std.proofs.Common.{◌∙◌, sym}
use Rattle.enfilade_core.specs.Rows.{branch_rows, rows_table, node_at}
use Rattle.enfilade_core.specs.Plain.{shape}
use Rattle.enfilade_core.proofs.OpenedAt.{at-of_part}
use Rattle.enfilade_balance.proofs.Rooting.{last-root, last-node, below-owes, zero-root, not-moved, node-owes}
use Rattle.enfilade_balance.proofs.roots.root_below.Goals as goal

pub opened-requires : goal.opened-requires
opened-requires g c = at-of_part g.P.Plane.widths c.args.arena.now c.args.branch.now c.requires

pub returns-clause-root : goal.returns-clause-root
returns-clause-root g c =
    last-root c.args.arena.now c.add_node.new.self (shape g.P.Plane.plain c.in_ok-children.children) c.in_ok-root.root.0 (branch_rows (rows_table c.args.arena.now) c.args.branch.now)
    record { is = c.in_ok-root.ensures.ok; at = c.in_ok-root.ensures.made } c.in_ok-children.ensures.opened.rows

pub returns-clause-owes : goal.returns-clause-owes
returns-clause-owes g c =
    below-owes g.P.Plane.widths c.args.arena.now c.add_node.new.self c.args.branch.now (shape g.P.Plane.plain c.in_ok-children.children) c.in_ok-root.root.0
    record { opened = c.in_ok-children.ensures.opened; stands = c.in_ok-children.ensures.stands; is = c.in_ok-children.ensures.is } record { is = c.in_ok-root.ensures.ok; at = c.in_ok-root.ensures.made }

pub returns-then-stands_at_zero-clause-root : goal.returns-then-stands_at_zero-clause-root
returns-then-stands_at_zero-clause-root g c = zero-root g.P.Plane.widths c.args.arena.now c.args.branch.now c.requires (c.stands_at_zero.ensures.first c.if-stands_at_zero.true) (c.stands_at_zero.ensures.second c.if-stands_at_zero.true)

pub returns-then-stands_at_zero-clause-owes : goal.returns-then-stands_at_zero-clause-owes
returns-then-stands_at_zero-clause-owes g c = node-owes g.P.Plane.widths c.args.arena.now c.args.branch.now.node.0 c.nodes_are_well_formed.ensures c.requires.branch.below

pub returns-clause-is : goal.returns-clause-is
returns-clause-is g c =
    last-node c.args.arena.now c.add_node.new.self (shape g.P.Plane.plain c.in_ok-children.children) c.in_ok-root.root.0 record { is = c.in_ok-root.ensures.ok; at = c.in_ok-root.ensures.made } ∙ c.in_ok-children.ensures.is

pub returns-then-stands_at_zero-clause-is : goal.returns-then-stands_at_zero-clause-is
returns-then-stands_at_zero-clause-is g c =
    sym (not-moved c.args.branch.now.first c.args.branch.now.second (node_at c.args.arena.now c.args.branch.now.node.0) (c.stands_at_zero.ensures.first c.if-stands_at_zero.true) (c.stands_at_zero.ensures.second c.if-stands_at_zero.true))
