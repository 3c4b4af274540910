use Rattle.std.proofs.Common.{[], ◌∷◌, ◌++◌, Some, ap, ◌∙◌}
use Rattle.history_lock.proofs.RuleKept.{starts_from}
use Rattle.history_lock.proofs.lock.HistoryLock.new.Goals as goal

pub new-requires : goal.new-requires
new-requires g c =
    let made = c.in-Ok.ensures in
    starts_from g.T.Kept.history g.T.Kept.owner g.T.Kept.fixed c.args.kept _ _ _ (c.push_reserved.ensures.items ∙ ap (λ l. l ++ Some c.args.kept ∷ []) made.items) c.of-about.ensures c.count-count.ensures.0
