-- How a store stands to its pages: what loading gives of every image of its disk.
use Rattle.std.specs.Prelude.{◌⊎◌, List, length, Option}
use Rattle.febe_data.specs.Plain.{PlainEntry}
use Rattle.green_io.specs.Areas.{Areas}
use Rattle.green_io.specs.Disk.{DiskState, images_now}
use Rattle.world_rules.specs.Apply.{world_of}
use Rattle.page_journal.specs.JournalBytes.{opened}
use Rattle.page_trees.specs.Trees.{PlainTrees}
use Rattle.green_flush.specs.Loads.{TreesAt, Loads}
use Rattle.green_flush.specs.Standing.{StandsOn, trees_at}
use Rattle.paged_world.specs.Standing.{StandFor, MayGoOn}
use Rattle.green_store.specs.StoreView.{StoreView}

-- Every image of the disk loads as one of these two, and the next save may be made from there.
pub record IsPaged (disk : DiskState) (store : StoreView) (was now : Option TreesAt) : Type 0 where
  pub stands : StandsOn disk store.flush was now
  pub goes_on : MayGoOn store.flush now store.nodes

-- there are such two
pub record HasPages (disk : DiskState) (store : StoreView) : Type 0 where
  pub was : Option TreesAt
  pub now : Option TreesAt
  pub paged : IsPaged disk store was now

-- opening and loading the image gives trees at the position behind these entries, which stand for the world that they build
pub record LoadsFor (entries : List PlainEntry) (image : Areas) : Type 0 where
  pub plain : PlainTrees
  pub stand : StandFor plain (world_of entries)
  pub loads : Loads (opened image) (trees_at plain (length entries))

-- so does every image
abbrev pub EachLoadsFor : List PlainEntry → DiskState → Type 0
EachLoadsFor entries disk = (image : Areas) → images_now disk image → LoadsFor entries image

-- opening and loading the image gives one of the two that it might have given, or trees for these entries
abbrev pub MayLoad : Option TreesAt → Option TreesAt → List PlainEntry → Areas → Type 0
MayLoad was now entries image = (Loads (opened image) was ⊎ Loads (opened image) now) ⊎ LoadsFor entries image
