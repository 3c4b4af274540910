-- One number more is chosen.
use Rattle.std.proofs.Common.{ℕ, ◌+◌, refl, subst, arith}
use Rattle.page_flush.specs.inside.Fresh.{AreChosen}
use Rattle.page_flush.proofs.FreshPages.{chosen_none, chosen_more}
use Rattle.page_flush.proofs.choosing.choose.Goals as goal

pub loop-init : goal.loop-init
loop-init c = chosen_none c.args.spared.now c.args.next.now c.args.numbers.now.items

pub loop-preserved : goal.loop-preserved
loop-preserved c = chosen_more c.args.spared.now c.args.next.now c.loop.next (c.in_ok-number.number + 1) c.loop.counter c.args.numbers.now.items c.loop.numbers.items c.push.new.self.items c.in_ok-number.number c.loop.invariant c.in_ok-number.ensures.fresh c.in_ok-push.ensures.ok refl

pub returns : goal.returns
returns c = subst (λ (n : ℕ). AreChosen c.args.spared.now c.args.next.now c.loop.next n c.args.numbers.now.items c.loop.numbers.items) (omega arith) c.loop.invariant
