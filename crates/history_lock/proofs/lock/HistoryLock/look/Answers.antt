use Rattle.std.proofs.Common.{rules}
use Rattle.history_lock.proofs.RuleKept.{looks}
use Rattle.history_lock.proofs.lock.HistoryLock.look.Goals as goal

pub load-requires : goal.load-requires
load-requires g c = (search rules, search rules, looks _ _ _ _ _ _ c.requires.1)
