use Rattle.std.proofs.Common.{rules}
use Rattle.history_lock.proofs.RuleKept.{forks}
use Rattle.history_lock.proofs.lock.HistoryLock.fork.Goals as goal

pub split_seat-requires : goal.split_seat-requires
split_seat-requires g c = (search rules, search rules, forks _ _ _ _ _ c.requires.1)
