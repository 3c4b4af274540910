use Rattle.std.proofs.Common.{rules}
use Rattle.history_lock.proofs.RuleKept.{frees}
use Rattle.history_lock.proofs.lock.HistoryLock.let_go.Goals as goal

pub store-requires : goal.store-requires
store-requires g c = (search rules, search rules, frees _ g.T.Kept.owner _ _ _ _ c.requires.counted)
