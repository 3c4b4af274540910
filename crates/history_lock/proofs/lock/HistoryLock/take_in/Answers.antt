use Rattle.std.proofs.Common.{rules}
use Rattle.history_lock.proofs.RuleKept.{merges}
use Rattle.history_lock.proofs.lock.HistoryLock.take_in.Goals as goal

pub join_seat-requires : goal.join_seat-requires
join_seat-requires g c = let this = c.requires.this in let other = c.requires.other in let idle = other.1 in
    (search rules, search rules, idle.0, search rules, merges _ _ _ _ _ _ _ this.1 idle.3 idle.1 idle.2)
