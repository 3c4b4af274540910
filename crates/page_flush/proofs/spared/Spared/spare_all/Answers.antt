-- One number more is spared, or as many as there was memory for.
use Rattle.std.proofs.Common.{◌≡◌, ℕ, true, List, get_or, take, take_all, refl, sym, subst, arith}
use Rattle.page_chains.specs.Chains.{is_in}
use Rattle.page_flush.specs.inside.Fresh.{HasAlso}
use Rattle.page_flush.proofs.SparedPages.{also_none, also_keeps, spared_then, spares_more}
use Rattle.page_flush.proofs.spared.Spared.spare_all.Goals as goal

pub loop-number-init : goal.loop-number-init
loop-number-init c = also_none c.args.self.now

pub loop-number-preserved : goal.loop-number-preserved
loop-number-preserved c = spares_more c.args.numbers.now c.args.self.now c.loop-number.self c.spare.new.self c.loop-number.number-index (get_or c.args.numbers.now c.loop-number.number-index 0) (omega arith) refl c.loop-number.invariant c.in_ok-spare.ensures.ok

pub returns-in_err-spare-clause-keeps : goal.returns-in_err-spare-clause-keeps
returns-in_err-spare-clause-keeps c =
    spared_then c.args.self.now c.loop-number.self c.spare.new.self (also_keeps (take c.loop-number.number-index c.args.numbers.now) c.args.self.now c.loop-number.self c.loop-number.invariant)
    (λ k among. subst (λ (v : List ℕ). is_in k v ≡ true) (sym c.in_err-spare.ensures.err) among)

pub returns-clause-ok : goal.returns-clause-ok
returns-clause-ok c = subst (λ (l : List ℕ). HasAlso l c.args.self.now c.loop-number.self) (take_all c.loop-number.number-index c.args.numbers.now (omega arith)) c.loop-number.invariant

pub returns-clause-keeps : goal.returns-clause-keeps
returns-clause-keeps c = also_keeps (take c.loop-number.number-index c.args.numbers.now) c.args.self.now c.loop-number.self c.loop-number.invariant
