use Rattle.std.proofs.Common.{rules}
use Rattle.history_lock.proofs.RuleKept.{acquires}
use Rattle.history_lock.proofs.lock.HistoryLock.try_lock.Goals as goal

pub compare_exchange-found-requires : goal.compare_exchange-found-requires
compare_exchange-found-requires g c = (search rules, search rules, acquires _ _ _ g.T.Kept.marks _ _ _ c.requires.1)
