-- One number more is in use.
use Rattle.std.proofs.Common.{get_or, take_all, refl, subst, arith}
use Rattle.page_chains.specs.Spelled.{AreInUse}
use Rattle.page_flush.proofs.SpellSteps.{in_use_more}
use Rattle.page_flush.proofs.spelling.are_in_use.Goals as goal

pub loop-number-preserved : goal.loop-number-preserved
loop-number-preserved c = in_use_more c.args.numbers.now c.loop-number.number-index (get_or c.args.numbers.now c.loop-number.number-index 0) (omega arith) refl (omega arith) (omega arith) c.loop-number.invariant

pub returns : goal.returns
returns c = λ is. subst AreInUse (take_all c.loop-number.number-index c.args.numbers.now (omega arith)) c.loop-number.invariant
