use Rattle.std.proofs.Common.{◌<◌, ◌≤◌, length, map, arith, ap, ◌∙◌, subst, sym, List, ℕ}
use Rattle.tumbler.specs.Places.{sum}
use Rattle.tumbler.specs.Reach.{lead, greater, HasRoom}
use Rattle.enfilade_core.specs.Axes.{first_axis, second_axis}
use Rattle.enfilade_core.specs.Plain.{plain_row}
use Rattle.enfilade_core.proofs.OpenedAt.{bottom-is, inner-is}
use Rattle.enfilade_core.proofs.PartTests.{room-if_part}
use Rattle.enfilade_core.proofs.ReachBelow.{bottom-well_formed, child-well_formed, branch-reached, branch_reach-first, branch_reach-second, reach-bottom, reach-inner}
use Rattle.enfilade_core.proofs.ToldReach.{told-at}
use Rattle.enfilade_core.proofs.arena.Arena.last_reach.Goals as goal

pub rows_reach-requires : goal.rows_reach-requires
rows_reach-requires g c =
    let there : c.args.node.0 < length c.args.self.now = omega (arith, c.requires.last) in
    bottom-well_formed g.P.Plane.widths c.args.self.now c.allocator-alloc.ensures.well_formed c.args.node.0 (map (plain_row g.P.Plane.plain) c.as_slice.result.now) there
    (bottom-is g.P.Plane.plain c.args.self.now c.args.node.0 c.node.result.now c.in-Bottom.rows c.as_slice.result.now c.node.ensures c.in-Bottom.is c.as_slice.ensures)

pub join_moved-requires : goal.join_moved-requires
join_moved-requires g c =
    let there : c.args.node.0 < length c.args.self.now = omega (arith, c.requires.last) in
    let before : c.args.node.0 ≤ length c.args.self.now = omega (arith, c.requires.last) in
    let w = g.P.Plane.widths in
    let nodes = c.args.self.now in
    let branch = c.branch-item.result in
    let branches = c.as_slice-branch-items.result.now in
    let well_formed = c.allocator-alloc.ensures.well_formed in
    let is = inner-is g.P.Plane.plain nodes c.args.node.0 c.node.result.now c.in-Inner.branches branches c.node.ensures c.in-Inner.is c.as_slice-branch-items.ensures in
    let child = child-well_formed w nodes well_formed c.args.node.0 branches c.loop-branch.branch-index branch there is c.loop-branch-test.true c.branch-item.is in
    let room = room-if_part w g.met.P.Plane.widths_stay nodes well_formed branch child.part in
    let told = told-at w nodes c.args.node.0 c.args.reaches.now before c.requires.before branch.node.0 c.index-reaches-branch.result child.lower c.index-reaches-branch.is in
    record {
      first = subst (HasRoom branch.first) (sym told.first) room.first;
      second = subst (HasRoom branch.second) (sym told.second) room.second;
    }

pub loop-branch-preserved : goal.loop-branch-preserved
loop-branch-preserved g c =
    let there : c.args.node.0 < length c.args.self.now = omega (arith, c.requires.last) in
    let nodes = c.args.self.now in
    let w = g.P.Plane.widths in
    let branch = c.branch-item.result in
    let branches = c.as_slice-branch-items.result.now in
    let well_formed = c.allocator-alloc.ensures.well_formed in
    let is = inner-is g.P.Plane.plain nodes c.args.node.0 c.node.result.now c.in-Inner.branches branches c.node.ensures c.in-Inner.is c.as_slice-branch-items.ensures in
    let child = child-well_formed w nodes well_formed c.args.node.0 branches c.loop-branch.branch-index branch there is c.loop-branch-test.true c.branch-item.is in
    let lt = child.part.branch.below in
    let before : c.args.node.0 ≤ length nodes = omega (arith, c.requires.last) in
    let told = told-at w nodes c.args.node.0 c.args.reaches.now before c.requires.before branch.node.0 c.index-reaches-branch.result child.lower c.index-reaches-branch.is in
    record {
      first = branch-reached (first_axis w) nodes branches c.loop-branch.branch-index branch c.loop-branch.reach.first c.join_moved.new.self.first _ c.loop-branch-test.true c.branch-item.is c.loop-branch.invariant.first
          (branch_reach-first w g.met.P.Plane.widths_stay nodes well_formed branch lt)
          (c.join_moved.ensures.first ∙ ap (λ (r : List ℕ). greater c.loop-branch.reach.first (sum r (lead branch.first))) told.first);
      second = branch-reached (second_axis w) nodes branches c.loop-branch.branch-index branch c.loop-branch.reach.second c.join_moved.new.self.second _ c.loop-branch-test.true c.branch-item.is c.loop-branch.invariant.second
          (branch_reach-second w g.met.P.Plane.widths_stay nodes well_formed branch lt)
          (c.join_moved.ensures.second ∙ ap (λ (r : List ℕ). greater c.loop-branch.reach.second (sum r (lead branch.second))) told.second);
    }

pub returns-in-Bottom : goal.returns-in-Bottom
returns-in-Bottom g c =
    let there : c.args.node.0 < length c.args.self.now = omega (arith, c.requires.last) in
    let nodes = c.args.self.now in
    let w = g.P.Plane.widths in
    let rows = map (plain_row g.P.Plane.plain) c.as_slice.result.now in
    let well_formed = c.allocator-alloc.ensures.well_formed in
    let is = bottom-is g.P.Plane.plain nodes c.args.node.0 c.node.result.now c.in-Bottom.rows c.as_slice.result.now c.node.ensures c.in-Bottom.is c.as_slice.ensures in
    record {
      first = reach-bottom w (first_axis w) nodes well_formed c.args.node.0 rows c.rows_reach.result.first there is c.rows_reach.ensures.first;
      second = reach-bottom w (second_axis w) nodes well_formed c.args.node.0 rows c.rows_reach.result.second there is c.rows_reach.ensures.second;
    }

pub returns-after-loop-branch : goal.returns-after-loop-branch
returns-after-loop-branch g c =
    let there : c.args.node.0 < length c.args.self.now = omega (arith, c.requires.last) in
    let nodes = c.args.self.now in
    let w = g.P.Plane.widths in
    let branches = c.as_slice-branch-items.result.now in
    let well_formed = c.allocator-alloc.ensures.well_formed in
    let is = inner-is g.P.Plane.plain nodes c.args.node.0 c.node.result.now c.in-Inner.branches branches c.node.ensures c.in-Inner.is c.as_slice-branch-items.ensures in
    record {
      first = reach-inner w (first_axis w) nodes well_formed c.args.node.0 branches c.loop-branch.branch-index c.loop-branch.reach.first there is c.loop-branch-test.false c.loop-branch.invariant.first;
      second = reach-inner w (second_axis w) nodes well_formed c.args.node.0 branches c.loop-branch.branch-index c.loop-branch.reach.second there is c.loop-branch-test.false c.loop-branch.invariant.second;
    }
