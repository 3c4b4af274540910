use Rattle.std.proofs.Common.{◌-◌, ◌∙◌, ap, length, arith}
use Rattle.tumbler.specs.Places.{sum}
use Rattle.enfilade_core.specs.declared.summary.Summary.{Summary}
use Rattle.enfilade_core.specs.Summary.{branch_summary, summaries, raised}
use Rattle.enfilade_core.proofs.Fronts.{some_long}
use Rattle.enfilade_core.proofs.Heights.{height_bound}
use Rattle.enfilade_core.proofs.ChildrenTold.{branch-well_formed}
use Rattle.enfilade_core.proofs.KeptParts.{part_moves}
use Rattle.enfilade_core.proofs.Joined.{joined-height, joined-whole}
use Rattle.enfilade_core.proofs.arena.Arena.branches_told.Goals as goal

pub join_moved-requires : goal.join_moved-requires
join_moved-requires g c =
    let p = branch-well_formed g.P.Plane.widths c.args.self.now c.args.branches.now c.loop-branch.branch-index c.branch-item.result c.loop-branch-test.true c.branch-item.is c.requires in
    let m = part_moves g.P.Plane.widths g.met.P.Plane.widths_stay c.args.self.now c.summary-part.ensures.well_formed c.branch-item.result c.summary-part.result.now c.summary-part.ensures.told p in
    record { first = m.first; first_extent = m.first_extent; second_extent = m.second_extent }

pub add-summary-requires : goal.add-summary-requires
add-summary-requires g c =
    let long = some_long c.args.branches.now c.requires.branches.some in
    let p = branch-well_formed g.P.Plane.widths c.args.self.now c.args.branches.now (length c.args.branches.now - 1) c.index-branches-branches.result (omega (arith, long)) c.index-branches-branches.is c.requires in
    (part_moves g.P.Plane.widths g.met.P.Plane.widths_stay c.args.self.now c.summary.ensures.well_formed c.index-branches-branches.result c.summary.result.now c.summary.ensures.told p).last

pub raised-requires : goal.raised-requires
raised-requires g c =
    let long = some_long c.args.branches.now c.requires.branches.some in
    let k = length c.args.branches.now - 1 in
    let x = c.index-branches-branches.result in
    let p = branch-well_formed g.P.Plane.widths c.args.self.now c.args.branches.now k x (omega (arith, long)) c.index-branches-branches.is c.requires in
    let h = joined-height (branch_summary (summaries g.P.Plane.widths c.args.self.now)) c.args.branches.now c.loop-branch.branch-index k x c.loop-branch.summary (omega (arith, c.loop-branch-test.false)) (omega (arith, long)) c.index-branches-branches.is c.loop-branch.invariant in
    omega (arith, h, height_bound g.P.Plane.widths c.args.self.now c.allocator.ensures.well_formed x.node.0 p.branch.below, p.branch.below, c.allocator.ensures.few)

pub returns : goal.returns
returns g c =
    let long = some_long c.args.branches.now c.requires.branches.some in
    let x = c.index-branches-branches.result in
    c.raised.ensures
    ∙ ap raised (joined-whole (branch_summary (summaries g.P.Plane.widths c.args.self.now)) c.args.branches.now c.loop-branch.branch-index (length c.args.branches.now - 1) x c.loop-branch.summary c.add-summary.result
    (omega (arith, c.loop-branch-test.false)) (omega (arith, long)) c.index-branches-branches.is c.loop-branch.invariant (c.add-summary.ensures ∙ ap (λ (s : Summary). sum x.first s.last) c.summary.ensures.told))
