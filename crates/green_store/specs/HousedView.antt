-- What contracts see of a store that is housed with its disk.
use Rattle.std.specs.Prelude.{ℕ, IsSome, Option}
use Rattle.entry_codec.specs.Logged.{PlainLogged}
use Rattle.green_io.specs.Disk.{DiskState}
use Rattle.green_store.specs.Durable.{Keeps}
use Rattle.green_store.specs.Paged.{HasPages}
use Rattle.green_store.specs.StoreView.{StoreView}

-- the store, its disk, and the moment of the last job
pub record HousedView (D : Type 0) : Type 0 where
  pub store : StoreView
  pub disk : D
  pub last : ℕ

-- The disk has the store's kept entries, and behind them the edit that is pending, if one is; and it has the store's pages.
pub record IsDiskOf (store : StoreView) (disk : DiskState) : Type 0 where
  pub pending : Option PlainLogged
  pub keeps : Keeps disk store pending
  pub pages : HasPages disk store

-- So it is where the disk tells what it reads: it is the one over which the store was opened.
abbrev pub IsOneDisk : DiskState → StoreView → Type 0
IsOneDisk disk store = IsSome disk.reads → IsDiskOf store disk
