use Rattle.std.proofs.Common.{refl}
use Rattle.enfilade_core.specs.Rows.{Branches, rows_in, rows_table}
use Rattle.enfilade_balance.proofs.Rooting.{last-root, last-debt, last-node}
use Rattle.enfilade_balance.proofs.roots.root_over.Goals as goal

pub returns-clause-root : goal.returns-clause-root
returns-clause-root g c =
    last-root c.args.arena.now c.add_node.new.self (Branches c.args.branches.items) c.in_ok-root.root.0 (rows_in (rows_table c.args.arena.now) (Branches c.args.branches.items))
    record { is = c.in_ok-root.ensures.ok; at = c.in_ok-root.ensures.made } refl

pub returns-clause-owes : goal.returns-clause-owes
returns-clause-owes g c =
    last-debt g.P.Plane.widths c.args.arena.now c.add_node.new.self (Branches c.args.branches.items) c.in_ok-root.root.0 record { is = c.in_ok-root.ensures.ok; at = c.in_ok-root.ensures.made } c.requires

pub returns-clause-is : goal.returns-clause-is
returns-clause-is g c = last-node c.args.arena.now c.add_node.new.self (Branches c.args.branches.items) c.in_ok-root.root.0 record { is = c.in_ok-root.ensures.ok; at = c.in_ok-root.ensures.made }
