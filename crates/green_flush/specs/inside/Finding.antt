-- What is found on pages. Only private functions cite this.
use Rattle.std.specs.Prelude.{◌≡◌, ℕ, true, [], List, Option, Some, None, is_some}
use Rattle.page_journal.specs.JournalView.{JournalView}
use Rattle.page_chains.specs.Chains.{PlainChain}
use Rattle.page_flush.specs.FlushView as pages
use Rattle.page_saves.specs.Courses.{Kept}
use Rattle.page_trees.specs.Trees.{PlainTrees, AreTrees}
use Rattle.green_flush.specs.declared.owned.Owned.{Owned}
use Rattle.green_flush.specs.declared.trees.Trees.{Trees}
use Rattle.green_flush.specs.Sound.{AreSound}
use Rattle.green_flush.specs.Loads.{ArePlain}
use Rattle.green_flush.specs.Standing.{FlushView, AreCounts}
use Rattle.green_flush.specs.inside.Owning.{plain_owned, AreRooted}

-- the streams spell these trees, and they pass the tests
pub record AreSoundTrees (chains : List PlainChain) (owned : Owned) : Type 0 where
  pub are : AreTrees chains (plain_owned owned)
  pub rooted : AreRooted owned
  pub sound : AreSound (plain_owned owned)

-- the streams spell no trees that pass the tests
abbrev pub HaveNone : List PlainChain → Type 0
HaveNone chains = (trees : PlainTrees) → AreTrees chains trees → ¬ AreSound trees

-- it is so of the trees that were found; or there are none
abbrev pub AreFoundSound : List PlainChain → Option Owned → Type 0
AreFoundSound chains (Some owned) = AreSoundTrees chains owned
AreFoundSound chains None = HaveNone chains

-- what is known over pages that were put aside
abbrev pub put_aside : JournalView → pages.FlushView
put_aside journal = record { journal = journal; needs_blank = true; spared = []; kept = None }

-- the trees that the chains spell are sound and were loaded, and a save goes on from them
pub record GoesOnOver (chains : List PlainChain) (position : ℕ) (journal : JournalView) (flush : FlushView) (loaded : Trees × ℕ) : Type 0 where
  pub plain : PlainTrees
  pub are : AreTrees chains plain
  pub sound : AreSound plain
  pub trees : ArePlain loaded.0 plain
  pub position_is : loaded.1 ≡ position
  pub journal_is : flush.pages.journal ≡ journal
  pub knows : pages.Knows flush.pages (Kept chains position)
  pub goes_on : is_some flush.pages.kept ≡ true
  pub counts : AreCounts flush.counts plain

-- what a header of these chains at this position gives: their trees, or nothing, where they spell none that pass the tests
abbrev pub IsOpenedOver : List PlainChain → ℕ → JournalView → FlushView → Option (Trees × ℕ) → Type 0
IsOpenedOver chains position journal flush (Some loaded) = GoesOnOver chains position journal flush loaded
IsOpenedOver chains position journal flush None = HaveNone chains × (flush.pages ≡ put_aside journal)
