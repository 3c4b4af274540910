use Rattle.std.proofs.Common.{map, arith}
use Rattle.enfilade_core.specs.Plain.{plain_row}
use Rattle.enfilade_core.proofs.OpenedAt.{bottom-is, bottom-fits, inner-is}
use Rattle.enfilade_core.proofs.WalkedRows.{child-at, seen-all, seen-bottom}
use Rattle.enfilade_core.proofs.arena.Arena.+append_rows.Goals as goal

pub append_moved-requires : goal.append_moved-requires
append_moved-requires g t c =
    bottom-fits g.P.Plane.widths c.args.self.now c.args.node.0 c.args.first.now c.args.second.now (map (plain_row g.P.Plane.plain) c.as_slice.result.now) c.allocator-alloc.ensures.well_formed c.requires
    (bottom-is g.P.Plane.plain c.args.self.now c.args.node.0 c.node.result.now c.in-Bottom.rows c.as_slice.result.now c.node.ensures c.in-Bottom.is c.as_slice.ensures)

pub add-first-requires : goal.add-first-requires
add-first-requires g t c =
    let is = inner-is g.P.Plane.plain c.args.self.now c.args.node.0 c.node.result.now c.in-Inner.branches c.as_slice-branch-items.result.now c.node.ensures c.in-Inner.is c.as_slice-branch-items.ensures in
    (child-at g.P.Plane.widths c.args.self.now c.args.node.0 c.args.first.now c.args.second.now c.as_slice-branch-items.result.now c.loop-branch.branch-index c.branch-item.result c.allocator-alloc.ensures.well_formed c.requires is c.loop-branch-test.true c.branch-item.is).first_fits

pub add-second-requires : goal.add-second-requires
add-second-requires g t c =
    let is = inner-is g.P.Plane.plain c.args.self.now c.args.node.0 c.node.result.now c.in-Inner.branches c.as_slice-branch-items.result.now c.node.ensures c.in-Inner.is c.as_slice-branch-items.ensures in
    (child-at g.P.Plane.widths c.args.self.now c.args.node.0 c.args.first.now c.args.second.now c.as_slice-branch-items.result.now c.loop-branch.branch-index c.branch-item.result c.allocator-alloc.ensures.well_formed c.requires is c.loop-branch-test.true c.branch-item.is).second_fits

pub append_rows-requires : goal.append_rows-requires
append_rows-requires g t c κs within =
    let is = inner-is g.P.Plane.plain c.args.self.now c.args.node.0 c.node.result.now c.in-Inner.branches c.as_slice-branch-items.result.now c.node.ensures c.in-Inner.is c.as_slice-branch-items.ensures in
    let child = child-at g.P.Plane.widths c.args.self.now c.args.node.0 c.args.first.now c.args.second.now c.as_slice-branch-items.result.now c.loop-branch.branch-index c.branch-item.result c.allocator-alloc.ensures.well_formed c.requires is c.loop-branch-test.true c.branch-item.is in
    (omega (arith, child.lower, c.decreases), (within.0, (within.1, rw (c.add-first.ensures, c.add-second.ensures) child.at)))

pub returns-in-Bottom : goal.returns-in-Bottom
returns-in-Bottom g t c =
    seen-bottom g.P.Plane.widths c.args.self.now c.args.node.0 c.args.first.now c.args.second.now (map (plain_row g.P.Plane.plain) c.as_slice.result.now)
    (map (plain_row g.P.Plane.plain) c.args.into.now.items) (map (plain_row g.P.Plane.plain) c.append_moved.new.into.items) c.append_moved.result c.allocator-alloc.ensures.well_formed c.requires
    (bottom-is g.P.Plane.plain c.args.self.now c.args.node.0 c.node.result.now c.in-Bottom.rows c.as_slice.result.now c.node.ensures c.in-Bottom.is c.as_slice.ensures) c.append_moved.ensures

pub returns-after-loop-branch : goal.returns-after-loop-branch
returns-after-loop-branch g t c =
    let is = inner-is g.P.Plane.plain c.args.self.now c.args.node.0 c.node.result.now c.in-Inner.branches c.as_slice-branch-items.result.now c.node.ensures c.in-Inner.is c.as_slice-branch-items.ensures in
    seen-all g.P.Plane.widths c.args.self.now c.args.node.0 c.args.first.now c.args.second.now c.as_slice-branch-items.result.now c.loop-branch.branch-index
    (map (plain_row g.P.Plane.plain) c.args.into.now.items) (map (plain_row g.P.Plane.plain) c.loop-branch.into.items) c.allocator-alloc.ensures.well_formed c.requires is c.loop-branch-test.false c.loop-branch.invariant
