use Rattle.std.proofs.Common.{subst, ap, sym, ◌∙◌, IsSome, refl}
use Rattle.history_lock.specs.Passes.{Fits, known}
use Rattle.history_lock.proofs.Finishing.{left, same_left}
use Rattle.history_lock.proofs.RuleKept.{same_some}
use Rattle.history_lock.proofs.lock.HistoryLock.into_inner.Goals as goal

pub unwrap-kept-requires : goal.unwrap-kept-requires
unwrap-kept-requires g c =
    let K = g.T.Kept in let closed = c.try_close.ensures.closed c.if-not-try_close.false in
    let t = left K.history K.owner K.fixed K.marks _ _ _ c.args.pass.seat.me.0 _ closed.0 (ap (λ m. m.0) closed.1) c.args.pass.idle.3 c.close_with-closed.ensures.values.2 in
    subst IsSome (sym (same_left K.history K.owner K.fixed K.marks _ t.0 _ t.1 c.take.ensures.value)) refl

pub returns-clause-ok : goal.returns-clause-ok
returns-clause-ok g c =
    let K = g.T.Kept in let closed = c.try_close.ensures.closed c.if-not-try_close.false in
    let t = left K.history K.owner K.fixed K.marks _ _ _ c.args.pass.seat.me.0 _ closed.0 (ap (λ m. m.0) closed.1) c.args.pass.idle.3 c.close_with-closed.ensures.values.2 in
    let is = same_some _ _ (sym (same_left K.history K.owner K.fixed K.marks _ t.0 _ t.1 c.take.ensures.value) ∙ c.unwrap-kept.ensures) in
    subst (λ kept. Fits K.owner (K.history kept) (K.fixed kept) (known c.args.pass)) is t.2

pub returns-clause-apart : goal.returns-clause-apart
returns-clause-apart g c =
    let K = g.T.Kept in let closed = c.try_close.ensures.closed c.if-not-try_close.false in
    let t = left K.history K.owner K.fixed K.marks _ _ _ c.args.pass.seat.me.0 _ closed.0 (ap (λ m. m.0) closed.1) c.args.pass.idle.3 c.close_with-closed.ensures.values.2 in
    t.3
