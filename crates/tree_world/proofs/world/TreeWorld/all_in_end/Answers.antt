use Rattle.std.proofs.Common.{All, refl, sym, subst}
use Rattle.std.proofs.lemmas.List.Elements.{All-nil}
use Rattle.poom_compare.specs.Placed.{IsInterval}
use Rattle.tree_world.specs.inside.Reads.{links_for}
use Rattle.tree_world.proofs.InEnds.{placed_none, placed_more, placed_all}
use Rattle.tree_world.proofs.ByContent.{none_known}
use Rattle.tree_world.proofs.world.TreeWorld.all_in_end.Goals as goal

pub loop-run-init : goal.loop-run-init
loop-run-init c = (
  subst (All (IsInterval 1073741824)) (sym c.new-made.ensures.items) (All-nil (IsInterval 1073741824)),
  λ n. placed_none c.args.end (links_for c.args.self.now c.args.account.now) c.new-made.result.items n c.new-made.ensures.items,
  none_known c.args.end (links_for c.args.self.now c.args.account.now) c.in_ok-extents.extents c.new-known.result c.new-known.ensures.empty,
)

pub loop-run-preserved : goal.loop-run-preserved
loop-run-preserved c = (
  c.in_ok-push_in_end.ensures.each,
  λ n.
      placed_more c.args.end (links_for c.args.self.now c.args.account.now) c.args.placed.now c.loop-run.run-index _ c.run-item.result c.loop-run.made.items c.push_in_end.new.made.items n c.loop-run-test.true c.run-item.is refl (c.loop-run.invariant.1 n) (c.in_ok-push_in_end.ensures.same n),
  c.in_ok-push_in_end.ensures.known,
)

pub returns : goal.returns
returns c = record { each = c.loop-run.invariant.0; same = λ n. placed_all c.args.end (links_for c.args.self.now c.args.account.now) c.args.placed.now c.loop-run.run-index c.loop-run.made.items n c.loop-run-test.false (c.loop-run.invariant.1 n) }
