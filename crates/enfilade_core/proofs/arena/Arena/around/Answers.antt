use Rattle.std.proofs.Common.{◌∙◌, ◌++◌, ap, map, List}
use Rattle.enfilade_core.specs.declared.tree.Branch.{Branch}
use Rattle.enfilade_core.specs.Rows.{node_at, branches_under}
use Rattle.enfilade_core.specs.Packing.{branch_back}
use Rattle.enfilade_core.proofs.AroundMiddle.{made-in_parts, made-around}
use Rattle.enfilade_core.proofs.arena.Arena.around.Goals as goal

pub returns : goal.returns
returns g c =
    let a = c.args.first.now in
    let b = c.args.second.now in
    made-around a b c.branches_under-branches.result.now c.split_at.result.0.now (branches_under (node_at c.args.self.now c.args.node.0)) c.args.touched.now c.append_branches-2.new.into.items
    c.branches_under-branches.ensures c.split_at.ensures.front
    (made-in_parts c.split_at.result.0.now (map (branch_back a b) c.args.touched.now.branches.items) c.args.touched.now.rest.items c.reserve.new.self.items c.append_branches.new.into.items c.append_back.new.into.items c.append_branches-2.new.into.items (c.in_ok-reserve.ensures.items ∙ c.new-made.ensures.items) c.in_ok-append_branches.ensures
    (c.in_ok-append_back.ensures ∙ ap (λ (bs : List Branch). c.append_branches.new.into.items ++ map (branch_back a b) bs) c.as_slice.ensures)
    (c.in_ok-append_branches-2.ensures ∙ ap (λ (bs : List Branch). c.append_back.new.into.items ++ bs) c.as_slice-2.ensures))
