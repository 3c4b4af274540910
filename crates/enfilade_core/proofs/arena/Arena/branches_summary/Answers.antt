use Rattle.std.proofs.Common.{arith, ap, ◌∙◌}
use Rattle.enfilade_core.specs.Summary.{raised}
use Rattle.enfilade_core.specs.Rows.{Branches}
use Rattle.enfilade_core.specs.WellFormed.{IsWellFormed}
use Rattle.enfilade_core.proofs.GoneThrough.{if_none, filled_if}
use Rattle.enfilade_core.proofs.ChildrenTold.{branches-told, branches-height, branch-follows, branch-more, branch-well_formed}
use Rattle.enfilade_core.proofs.arena.Arena.branches_summary.Goals as goal

pub returns-in_err-part-clause-none : goal.returns-in_err-part-clause-none
returns-in_err-part-clause-none g c =
    if_none (IsWellFormed g.P.Plane.widths c.args.self.now (Branches c.args.branches.now) → ⊥) c.from_residual.result (λ well_formed. c.in_err-part.ensures.none (branch-well_formed g.P.Plane.widths c.args.self.now c.args.branches.now c.loop-branch.branch-index c.branch-item.result c.loop-branch-test.true c.branch-item.is well_formed))

pub returns-in_err-append-clause-none : goal.returns-in_err-append-clause-none
returns-in_err-append-clause-none g c =
    if_none (IsWellFormed g.P.Plane.widths c.args.self.now (Branches c.args.branches.now) → ⊥) c.from_residual-in_err-append.result (λ well_formed. c.in_err-append.ensures.none (branch-follows g.P.Plane.widths g.met.P.Plane.widths_stay c.args.self.now c.allocator.ensures.well_formed c.args.branches.now c.loop-branch.branch-index c.branch-item.result c.loop-branch.summary c.in_ok-part.part
    c.loop-branch-test.true c.branch-item.is c.loop-branch.invariant c.in_ok-part.ensures.some.0 c.in_ok-part.ensures.some.1 well_formed))

pub loop-branch-preserved : goal.loop-branch-preserved
loop-branch-preserved g c =
    branch-more g.P.Plane.widths g.met.P.Plane.widths_stay c.args.self.now c.allocator.ensures.well_formed c.args.branches.now c.loop-branch.branch-index c.branch-item.result c.loop-branch.summary c.in_ok-part.part c.append.new.self
    c.loop-branch-test.true c.branch-item.is c.loop-branch.invariant c.in_ok-part.ensures.some.0 c.in_ok-part.ensures.some.1 c.in_ok-append.ensures.some.0 c.in_ok-append.ensures.some.1

pub raised-requires : goal.raised-requires
raised-requires g c =
    let lt = branches-height g.P.Plane.widths c.args.self.now c.allocator.ensures.well_formed c.args.branches.now c.loop-branch.branch-index c.loop-branch.summary c.loop-branch-test.false (filled_if c.args.branches.now c.is_empty.result c.is_empty.ensures c.if-is_empty.false) c.loop-branch.invariant in
    omega (arith, lt, c.allocator.ensures.few)

pub returns-clause-some : goal.returns-clause-some
returns-clause-some g c =
    let t = branches-told g.P.Plane.widths c.args.self.now c.args.branches.now c.loop-branch.branch-index c.loop-branch.summary c.loop-branch-test.false (filled_if c.args.branches.now c.is_empty.result c.is_empty.ensures c.if-is_empty.false) c.loop-branch.invariant in
    (t.0, c.raised.ensures ∙ ap raised t.1)
