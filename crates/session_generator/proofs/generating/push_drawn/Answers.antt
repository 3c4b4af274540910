use Rattle.std.proofs.Common.{◌∙◌, ap, sym}
use Rattle.session_generator.specs.Generated.{maker_after}
use Rattle.session_generator.proofs.Drawn.{one_drawn, one_valid, maker_more}
use Rattle.session_generator.proofs.generating.push_drawn.Goals as goal

pub loop-n-preserved : goal.loop-n-preserved
loop-n-preserved c = record {
  maker = c.in_ok-request.ensures.after ∙ ap maker_after c.loop-n.invariant.maker ∙ sym (maker_more c.args.start c.loop-n.n);
  front = one_drawn _ _ c.in_ok-request.request _ c.args.start c.loop-n.n c.loop-n.maker c.in_ok-push.ensures.ok c.loop-n.invariant.maker c.in_ok-request.ensures.value c.loop-n.invariant.front;
  valid = one_valid _ _ c.in_ok-request.request c.in_ok-push.ensures.ok c.in_ok-request.ensures.valid c.loop-n.invariant.valid;
}
