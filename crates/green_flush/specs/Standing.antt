-- How a flush stands to the disk: what loading gives of every image, and where the next save goes on.
use Rattle.std.specs.Prelude.{◌≡◌, ◌⊎◌, ℕ, true, length, Option, Some, None, is_some}
use Rattle.green_io.specs.Areas.{Areas}
use Rattle.green_io.specs.Disk.{DiskState}
use Rattle.enfilade_core.specs.Exchange.{Grows}
use Rattle.page_journal.specs.JournalBytes.{opened}
use Rattle.page_journal.specs.Pages.{Pages}
use Rattle.page_saves.specs.Courses.{Saved, Aside, Blank, Kept}
use Rattle.page_saves.specs.Resting.{RestsOn}
use Rattle.page_trees.specs.Trees.{PlainTrees, HaveRoots, AreTrees}
use Rattle.page_flush.specs.FlushView as pages
use Rattle.page_flush.specs.Saving.{blank_page}
use Rattle.green_flush.specs.declared.flush.NodeCounts.{NodeCounts}
use Rattle.green_flush.specs.Sound.{AreSound}
use Rattle.green_flush.specs.declared.trees.Trees.{Trees}
use Rattle.green_flush.specs.Loads.{TreesAt, ArePlain, AreThat, Loads}

-- what is known of the pages, and how many nodes of each arena they hold, where the next save goes on from these
pub record FlushView : Type 0 where
  pub pages : pages.FlushView
  pub counts : NodeCounts

-- What loading gives where the pages hold this. Of what was put aside, and of a blank start, it gives nothing.
abbrev pub Gives : Saved → Option TreesAt → Type 0
Gives (Aside found) (Some at) = ⊥
Gives (Aside found) None = Loads found None
Gives (Blank header) (Some at) = ⊥
Gives (Blank header) None = header ≡ blank_page
Gives (Kept chains position) (Some at) = AreTrees chains at.trees × AreSound at.trees × (at.position ≡ position)
Gives (Kept chains position) None = ⊥

-- these are the numbers of nodes in the trees' arenas
pub record AreCounts (counts : NodeCounts) (trees : PlainTrees) : Type 0 where
  pub granfilade : counts.granfilade ≡ length trees.granfilade
  pub poom : counts.poom ≡ length trees.poom
  pub spanfilade : counts.spanfilade ≡ length trees.spanfilade
  pub from : counts.from ≡ length trees.from
  pub to : counts.to ≡ length trees.to
  pub three : counts.three ≡ length trees.three

-- where the next save goes on from trees, their nodes are counted
abbrev pub Counts : FlushView → Option TreesAt → Type 0
Counts flush None = Unit {0}
Counts flush (Some at) = (flush.pages.kept ≡ None) ⊎ AreCounts flush.counts at.trees

-- Every image of the disk loads as the one or as the other: what the pages came from, where a save has stopped, and what they
-- hold or come to. A save may be made from there.
pub record StandsOn (disk : DiskState) (flush : FlushView) (was now : Option TreesAt) : Type 0 where
  pub from : Saved
  pub to : Saved
  pub rests : RestsOn disk flush.pages.journal from to
  pub knows : pages.Knows flush.pages to
  pub came : Gives from was
  pub is : Gives to now
  pub counts : Counts flush now

-- each arena of the trees has the nodes that it had, and more behind them
pub record HaveGrown (old new : PlainTrees) : Type 0 where
  pub granfilade : Grows old.granfilade new.granfilade
  pub poom : Grows old.poom new.poom
  pub spanfilade : Grows old.spanfilade new.spanfilade
  pub from : Grows old.from new.from
  pub to : Grows old.to new.to
  pub three : Grows old.three new.three

-- Trees that may be saved: they have their roots and pass the tests of loading, and where the save goes on from trees that the
-- pages hold, they have grown from these.
pub record MayBeSaved (flush : FlushView) (now : Option TreesAt) (trees : Trees) (plain : PlainTrees) : Type 0 where
  pub are : ArePlain trees plain
  pub roots : HaveRoots plain
  pub sound : AreSound plain
  pub grown : (at : TreesAt) → now ≡ Some at → (flush.pages.kept ≡ None) ⊎ HaveGrown at.trees plain

-- the trees at this position
abbrev pub trees_at : PlainTrees → ℕ → Option TreesAt
trees_at plain position = Some (record { trees = plain; position = position })

-- opening and loading the image gives one of these
abbrev pub LoadsOne : Option TreesAt → Option TreesAt → Option TreesAt → Areas → Type 0
LoadsOne was now next image = (Loads (opened image) was ⊎ Loads (opened image) now) ⊎ Loads (opened image) next

-- one of these three
abbrev pub IsOneOf : Option TreesAt → Option TreesAt → Option TreesAt → Option TreesAt → Type 0
IsOneOf was now next one = ((one ≡ was) ⊎ (one ≡ now)) ⊎ (one ≡ next)

-- the save was made: every image loads as what was saved, and the next save may go on from it
pub record IsSaved (disk : DiskState) (flush : FlushView) (next : Option TreesAt) : Type 0 where
  pub stands : StandsOn disk flush next next
  pub goes_on : is_some flush.pages.kept ≡ true

-- the save failed: every image loads as one of two, each of which was there before or is what was to be saved, and a save may
-- be made from there
pub record IsStopped (disk : DiskState) (flush : FlushView) (was now next : Option TreesAt) : Type 0 where
  pub before : Option TreesAt
  pub after : Option TreesAt
  pub stands : StandsOn disk flush before after
  pub came : IsOneOf was now next before
  pub is : IsOneOf was now next after

-- Opening has given this flush and these trees: they are what the pages give, every image gives them too, and a save goes on from
-- them.
pub record IsOpened (pages : Pages) (disk : DiskState) (flush : FlushView) (loaded : Option (Trees × ℕ)) : Type 0 where
  pub now : Option TreesAt
  pub are : AreThat loaded now
  pub loads : Loads pages now
  pub stands : StandsOn disk flush now now
  pub goes_on : is_some flush.pages.kept ≡ is_some now

-- the next save writes every stream anew, and spares what it spared
pub record IsRenewed (old new : FlushView) : Type 0 where
  pub anew : new.pages.kept ≡ None
  pub journal : new.pages.journal ≡ old.pages.journal
  pub needs_blank : new.pages.needs_blank ≡ old.pages.needs_blank
  pub spared : new.pages.spared ≡ old.pages.spared
