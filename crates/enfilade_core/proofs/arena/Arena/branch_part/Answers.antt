use Rattle.std.proofs.Common.{◌∙◌, ◌<◌, ap, sym, subst}
use Rattle.tumbler.specs.Reach.{HasRoom}
use Rattle.enfilade_core.specs.Summary.{summary_moved}
use Rattle.enfilade_core.proofs.BranchTests.{tested, part-tested, moves-there}
use Rattle.enfilade_core.proofs.arena.Arena.branch_part.Goals as goal

pub returns-then-summary-eq0-clause-none : goal.returns-then-summary-eq0-clause-none
returns-then-summary-eq0-clause-none g c = λ p.
    (tested g.P.Plane.widths g.met.P.Plane.widths_stay c.args.self.now c.summary-summary.ensures.well_formed c.args.branch.now c.summary-summary.result.now c.summary-summary.ensures.told p).leaves c.if-summary-eq0.true

pub returns-then-not-is_same-clause-none : goal.returns-then-not-is_same-clause-none
returns-then-not-is_same-clause-none g c = λ p.
    let t = tested g.P.Plane.widths g.met.P.Plane.widths_stay c.args.self.now c.summary-summary.ensures.well_formed c.args.branch.now c.summary-summary.result.now c.summary-summary.ensures.told p in
    let is = c.is_same.ensures.1 t.first_extent in cc

pub returns-then-not-is_same-2-clause-none : goal.returns-then-not-is_same-2-clause-none
returns-then-not-is_same-2-clause-none g c = λ p.
    let t = tested g.P.Plane.widths g.met.P.Plane.widths_stay c.args.self.now c.summary-summary.ensures.well_formed c.args.branch.now c.summary-summary.result.now c.summary-summary.ensures.told p in
    let is = c.is_same-2.ensures.1 t.second_extent in cc

pub returns-then-not-has_room-clause-none : goal.returns-then-not-has_room-clause-none
returns-then-not-has_room-clause-none g c = λ p.
    let t = tested g.P.Plane.widths g.met.P.Plane.widths_stay c.args.self.now c.summary-summary.ensures.well_formed c.args.branch.now c.summary-summary.result.now c.summary-summary.ensures.told p in
    let is = c.has_room.ensures.1 (subst (HasRoom c.args.branch.now.first) (sym c.reach-reach.ensures.first) t.first_room) in cc

pub returns-then-not-has_room-2-clause-none : goal.returns-then-not-has_room-2-clause-none
returns-then-not-has_room-2-clause-none g c = λ p.
    let t = tested g.P.Plane.widths g.met.P.Plane.widths_stay c.args.self.now c.summary-summary.ensures.well_formed c.args.branch.now c.summary-summary.result.now c.summary-summary.ensures.told p in
    let is = c.has_room-2.ensures.1 (subst (HasRoom c.args.branch.now.second) (sym c.reach-reach.ensures.second) t.second_room) in cc

pub moved-requires : goal.moved-requires
moved-requires g c =
    let below = subst (λ n. c.args.branch.now.node.0 < n) c.count.ensures c.if-branch-count.false in
    let room = subst (HasRoom c.args.branch.now.first) c.reach-reach.ensures.first (c.has_room.ensures.0 c.if-not-has_room.false) in
    let room2 = subst (HasRoom c.args.branch.now.second) c.reach-reach.ensures.second (c.has_room-2.ensures.0 c.if-not-has_room-2.false) in
    let m = moves-there g.P.Plane.widths g.met.P.Plane.widths_stay c.args.self.now c.summary-summary.ensures.well_formed c.args.branch.now.node.0 c.args.branch.now.first c.args.branch.now.second c.summary-summary.result.now
    c.summary-summary.ensures.told below c.is_tumbler.ensures c.is_tumbler-2.ensures room room2 in
    record { first = m.first; last = m.last; first_extent = m.first_extent; second_extent = m.second_extent }

pub returns-clause-some : goal.returns-clause-some
returns-clause-some g c =
    let below = subst (λ n. c.args.branch.now.node.0 < n) c.count.ensures c.if-branch-count.false in (
      part-tested g.P.Plane.widths g.met.P.Plane.widths_stay c.args.self.now c.summary-summary.ensures.well_formed c.args.branch.now c.summary-summary.result.now c.summary-summary.ensures.told
          c.is_tumbler.ensures c.is_tumbler-2.ensures below record {
            leaves = c.if-summary-eq0.false;
            first_extent = c.is_same.ensures.0 c.if-not-is_same.false;
            second_extent = c.is_same-2.ensures.0 c.if-not-is_same-2.false;
            first_room = subst (HasRoom c.args.branch.now.first) c.reach-reach.ensures.first (c.has_room.ensures.0 c.if-not-has_room.false);
            second_room = subst (HasRoom c.args.branch.now.second) c.reach-reach.ensures.second (c.has_room-2.ensures.0 c.if-not-has_room-2.false);
          },
      c.moved.ensures ∙ ap (summary_moved c.args.branch.now.first c.args.branch.now.second) c.summary-summary.ensures.told,
    )
