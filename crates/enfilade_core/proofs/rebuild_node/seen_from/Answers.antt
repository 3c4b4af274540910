use Rattle.std.proofs.Common.{◌∙◌, sym}
use Rattle.tumbler.proofs.Before.{before_if_true, up_to_if_false}
use Rattle.enfilade_core.proofs.SeenPlaces.{seen-zero, seen-minus}
use Rattle.enfilade_core.proofs.rebuild_node.seen_from.Goals as goal

pub returns-then-is_before : goal.returns-then-is_before
returns-then-is_before c =
    seen-zero c.args.at.now c.args.base.now c.zero.result c.zero.ensures (before_if_true c.args.at.now c.args.base.now (sym c.is_before.ensures.value ∙ c.if-is_before.true))

pub minus-seen-requires : goal.minus-seen-requires
minus-seen-requires c = up_to_if_false c.args.at.now c.args.base.now (sym c.is_before.ensures.value ∙ c.if-is_before.false)

pub returns : goal.returns
returns c =
    seen-minus c.args.at.now c.args.base.now c.minus-seen.result (up_to_if_false c.args.at.now c.args.base.now (sym c.is_before.ensures.value ∙ c.if-is_before.false)) c.is_tumbler.ensures.ends c.minus-seen.ensures
