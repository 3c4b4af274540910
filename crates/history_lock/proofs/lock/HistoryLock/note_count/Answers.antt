use Rattle.std.proofs.Common.{rules}
use Rattle.history_lock.proofs.RuleKept.{recounts}
use Rattle.history_lock.proofs.lock.HistoryLock.note_count.Goals as goal

pub store-requires : goal.store-requires
store-requires g c = let played = c.requires.played in (search rules, search rules, recounts _ _ _ g.T.Kept.marks _ _ _ _ played.0 played.1)
