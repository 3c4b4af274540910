use Rattle.std.proofs.Common.{◌∙◌, ap, sym}
use Rattle.tumbler.proofs.Before.{up_to_if_false}
use Rattle.enfilade_core.proofs.SeenMoved.{may-move_gap, rest-moved, rest-still}
use Rattle.enfilade_core.proofs.arena.Arena.rest_seen.Goals as goal

pub returns-then-is_same : goal.returns-then-is_same
returns-then-is_same g c =
    rest-still g.P.Plane.widths c.args.self.now c.args.gap.now c.args.first.now c.args.second.now c.args.branches.now c.reserve.new.self.items c.append_branches.new.into.items (c.is_same.ensures.0 c.if-is_same.true) (c.in_ok-reserve.ensures.items ∙ c.new-made.ensures.items) c.in_ok-append_branches.ensures c.requires.parts c.requires.ends c.requires.past

pub minus-to-requires : goal.minus-to-requires
minus-to-requires g c = up_to_if_false c.args.gap.now.to c.args.first.now (sym c.is_before.ensures.value ∙ c.if-is_before.false)

pub minus-onto-requires : goal.minus-onto-requires
minus-onto-requires g c = up_to_if_false c.args.gap.now.onto c.args.first.now (sym c.is_before-2.ensures.value ∙ c.if-is_before-2.false)

pub append_seen-requires : goal.append_seen-requires
append_seen-requires g c =
    may-move_gap g.P.Plane.widths c.args.self.now c.args.gap.now c.args.first.now c.args.second.now c.minus-to.result c.minus-onto.result c.args.branches.now c.minus-to.ensures c.minus-onto.ensures
    (up_to_if_false c.args.gap.now.to c.args.first.now (sym c.is_before.ensures.value ∙ c.if-is_before.false)) (up_to_if_false c.args.gap.now.onto c.args.first.now (sym c.is_before-2.ensures.value ∙ c.if-is_before-2.false)) c.requires.parts c.requires.ends c.requires.rows

pub returns : goal.returns
returns g c =
    rest-moved g.P.Plane.widths c.args.self.now c.args.gap.now c.args.first.now c.args.second.now c.minus-to.result c.minus-onto.result c.args.branches.now c.reserve.new.self.items c.append_seen.new.made.items c.minus-to.ensures c.minus-onto.ensures
    (up_to_if_false c.args.gap.now.to c.args.first.now (sym c.is_before.ensures.value ∙ c.if-is_before.false)) (up_to_if_false c.args.gap.now.onto c.args.first.now (sym c.is_before-2.ensures.value ∙ c.if-is_before-2.false))
    (c.in_ok-reserve.ensures.items ∙ c.new-made.ensures.items) (c.in_ok-all.ensures.are c.if-not-all.false) (c.in_ok-all.ensures.moves c.if-not-all.false)
