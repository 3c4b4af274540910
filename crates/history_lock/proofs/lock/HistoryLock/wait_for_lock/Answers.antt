use Rattle.std.proofs.Common.{suc, [], refl, sym, ap, ◌∙◌}
use Rattle.history_lock.proofs.Finishing.{found_none, busy_again, taken_after}
use Rattle.history_lock.proofs.lock.HistoryLock.wait_for_lock.Goals as goal

pub loop-init : goal.loop-init
loop-init g c = (0, (refl, refl), ap (λ l. (c.args.seat.now.me.0, l)) c.requires.1.0 ∙ ap (λ v. (v, [])) (sym (found_none c.args.seat.now.me.0)))

pub try_lock-requires : goal.try_lock-requires
try_lock-requires g c = let seen = c.loop.invariant in let idle = c.requires.1 in let is = seen.2 in
    (seen.1.0 ∙ c.requires.0, (ap (λ m. m.1) is, ap (λ m. m.0.held) is ∙ idle.1, ap (λ m. m.0.out) is ∙ idle.2, ap (λ m. m.0.spent) is ∙ idle.3))

pub returns-then-try_lock-clause-same : goal.returns-then-try_lock-clause-same
returns-then-try_lock-clause-same g c = let seen = c.loop.invariant in let same = c.try_lock.ensures.same in (same.0 ∙ seen.1.0, same.1 ∙ seen.1.1)

pub returns-then-try_lock-clause-taken : goal.returns-then-try_lock-clause-taken
returns-then-try_lock-clause-taken g c = let seen = c.loop.invariant in
    (seen.0, taken_after g.T.Kept.history g.T.Kept.owner g.T.Kept.fixed g.T.Kept.marks c.args.seat.now.me.0 seen.0 _ c.loop.seat.me seen.2 (c.try_lock.ensures.taken c.if-try_lock.true))

pub loop-preserved : goal.loop-preserved
loop-preserved g c = let seen = c.loop.invariant in let same = c.try_lock.ensures.same in
    (suc seen.0, (same.0 ∙ seen.1.0, same.1 ∙ seen.1.1), busy_again c.args.seat.now.me.0 seen.0 c.loop.seat.me _ seen.2 (c.try_lock.ensures.busy c.if-try_lock.false))
