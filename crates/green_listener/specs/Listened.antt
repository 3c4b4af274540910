-- What a pass knows once connections were served.
use Rattle.std.specs.Prelude.{ℕ}
use Rattle.febe_data.specs.Plain.{PlainEntry}
use Rattle.history_lock.specs.declared.lock.HistoryLock.{HistoryLock}
use Rattle.history_lock.specs.declared.pass.Token.{Token}
use Rattle.history_lock.specs.Passes.{known, IsPassOf}
use Rattle.session_pool.specs.Serving.{HasPooled}
use Rattle.green_store.specs.Marks.{owner_of}

-- So many connections were served. The pass is of the lock still, and has taken in a pass for each of them.
pub record HasListened {T J A : Type 0} (lock : HistoryLock T J A PlainEntry) (old : Token T PlainEntry) (count : ℕ) (new : Token T PlainEntry) : Type 0 where
  pub same_lock : IsPassOf lock new
  pub pooled : HasPooled owner_of (known old) count count (known new)
