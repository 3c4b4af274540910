use Rattle.std.proofs.Common.{◌∙◌, List, subst}
use Rattle.enfilade_core.specs.declared.tree.Branch.{Branch}
use Rattle.enfilade_core.specs.Rows.{Branches, node_at, branches_under}
use Rattle.enfilade_core.specs.Exchange.{IsPacked}
use Rattle.enfilade_core.specs.Touched.{branches_at, with_middle}
use Rattle.enfilade_core.proofs.OpenedAt.{at-of_part}
use Rattle.enfilade_core.proofs.AroundMiddle.{opened-well_formed, opened-none, filled-if_well_formed}
use Rattle.enfilade_core.proofs.arena.Arena.repacked.Goals as goal

pub around_opened-requires-clause-at : goal.around_opened-requires-clause-at
around_opened-requires-clause-at g c = at-of_part g.P.Plane.widths c.args.self.now c.args.branch.now c.requires.part

pub branches_packed-requires-clause-well_formed : goal.branches_packed-requires-clause-well_formed
branches_packed-requires-clause-well_formed g c =
    opened-well_formed g.P.Plane.widths c.args.self.now (with_middle c.args.branch.now.first c.args.branch.now.second (branches_at c.args.branch.now.first c.args.branch.now.second (branches_under (node_at c.args.self.now c.args.branch.now.node.0))) c.args.touched.now) c.in_ok-children.children.items c.as_slice-2.result.now c.is_empty.result
    c.requires.well_formed c.in_ok-children.ensures c.as_slice-2.ensures c.is_empty.ensures c.if-is_empty.false

pub branches_packed-requires-clause-filled : goal.branches_packed-requires-clause-filled
branches_packed-requires-clause-filled g c =
    filled-if_well_formed g.P.Plane.widths c.args.self.now c.as_slice-2.result.now
    (opened-well_formed g.P.Plane.widths c.args.self.now (with_middle c.args.branch.now.first c.args.branch.now.second (branches_at c.args.branch.now.first c.args.branch.now.second (branches_under (node_at c.args.self.now c.args.branch.now.node.0))) c.args.touched.now) c.in_ok-children.children.items c.as_slice-2.result.now c.is_empty.result
    c.requires.well_formed c.in_ok-children.ensures c.as_slice-2.ensures c.is_empty.ensures c.if-is_empty.false)

pub returns-then-is_empty-clause-packed : goal.returns-then-is_empty-clause-packed
returns-then-is_empty-clause-packed g c =
    opened-none c.args.self.now (with_middle c.args.branch.now.first c.args.branch.now.second (branches_at c.args.branch.now.first c.args.branch.now.second (branches_under (node_at c.args.self.now c.args.branch.now.node.0))) c.args.touched.now) c.in_ok-children.children.items c.is_empty.result c.in_ok-children.ensures c.is_empty.ensures c.if-is_empty.true

pub returns-clause-packed : goal.returns-clause-packed
returns-clause-packed g c =
    subst (λ (bs : List Branch). IsPacked g.P.Plane.widths c.args.self.now c.branches_packed.new.self (Branches bs) c.in_ok-made.made) (c.as_slice-2.ensures ∙ c.in_ok-children.ensures) c.in_ok-made.ensures.packed
