use Rattle.std.proofs.Common.{◌∙◌, ◌+◌, get_or, ap, sym, subst, arith}
use Rattle.enfilade_core.specs.KeptMarked.{AreMoved}
use Rattle.enfilade_core.proofs.Ranks.{rank_yes, rank_no}
use Rattle.enfilade_core.proofs.KeptMarked.{moved_more, moved_past}
use Rattle.enfilade_core.proofs.keep_nodes.move_marked.Goals.{then-marks-number, else-marks-number}
use Rattle.enfilade_core.proofs.keep_nodes.move_marked.Goals as goal

pub loop-number-preserved : goal.loop-number-preserved
loop-number-preserved g c = elim c.if-marks-number.branch [
  | then-marks-number w ↦ record {
    moved = subst (λ nodes. AreMoved g.P.Plane.plain c.args.marks.now (λ i. get_or c.args.ranks.now i 0) c.args.nodes.now nodes (c.loop-number.number + 1)) (sym w.nodes-is)
        (moved_more g.P.Plane.plain c.args.marks.now (λ i. get_or c.args.ranks.now i 0) c.args.nodes.now c.loop-number.nodes c.loop-number.number c.loop-number.invariant.moved w.move_node.new.nodes c.loop-number.count c.loop-number-test.true c.loop-number.invariant.count c.loop-number.invariant.few
        w.if-marks-number.true w.move_node.ensures.long w.move_node.ensures.moved w.move_node.ensures.others);
    count = w.count-is ∙ ap (λ n. n + 1) c.loop-number.invariant.count ∙ sym (rank_yes c.args.marks.now c.loop-number.number w.if-marks-number.true);
    few = omega (arith, c.loop-number.invariant.few, w.count-is);
  }
  | else-marks-number w ↦ record {
    moved = subst (λ nodes. AreMoved g.P.Plane.plain c.args.marks.now (λ i. get_or c.args.ranks.now i 0) c.args.nodes.now nodes (c.loop-number.number + 1)) (sym w.nodes-is)
        (moved_past g.P.Plane.plain c.args.marks.now (λ i. get_or c.args.ranks.now i 0) c.args.nodes.now c.loop-number.nodes c.loop-number.number c.loop-number.invariant.moved w.if-marks-number.false);
    count = w.count-is ∙ c.loop-number.invariant.count ∙ sym (rank_no c.args.marks.now c.loop-number.number w.if-marks-number.false);
    few = omega (arith, c.loop-number.invariant.few, w.count-is);
  }
]
