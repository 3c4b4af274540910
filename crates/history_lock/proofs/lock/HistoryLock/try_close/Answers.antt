use Rattle.std.proofs.Common.{rules}
use Rattle.history_lock.proofs.RuleKept.{closes}
use Rattle.history_lock.proofs.lock.HistoryLock.try_close.Goals as goal

pub compare_exchange-word-requires : goal.compare_exchange-word-requires
compare_exchange-word-requires g c = (search rules, search rules, closes _ _ _ g.T.Kept.marks _ _ _ c.requires.1)
