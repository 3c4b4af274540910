-- What building the world of a log's entries finds, and how it goes on with trees that pages hold.
use Rattle.std.specs.Prelude.{◌≡◌, ◌⊎◌, ℕ, ◌≤◌, Bool, true, false, not, List, [], length, Option, None, Some}
use Rattle.febe_data.specs.Plain.{PlainEntry}
use Rattle.world_rules.specs.FlatView.{FlatView, view_of}
use Rattle.entry_fits.specs.Fits.{AllFit}
use Rattle.entry_fits.specs.Greatest.{AreSerialsOf}
use Rattle.tree_world.specs.Condition.{Condition}
use Rattle.tree_world.specs.Nodes.{WorldNodes, AllGrown}
use Rattle.green_flush.specs.declared.trees.Trees.{Trees}
use Rattle.green_flush.specs.Loads.{TreesAt, AreLoaded}
use Rattle.green_flush.specs.Standing.{FlushView, IsRenewed}
use Rattle.paged_world.specs.Standing.{AreIn, HaveGrownFrom}
use Rattle.green_store.specs.declared.opening.Retold.{Retold}
use Rattle.green_store.specs.declared.opening.Retold.TheVariants as retold
use Rattle.green_store.specs.declared.opening.Rebuilt.{Rebuilt}
use Rattle.green_store.specs.declared.opening.Rebuilt.TheVariants as rebuilt
use Rattle.green_store.specs.Opening.{IsUnfitFrom, StandAt}

-- These entries fit one after another, the world stands for what they build, and the serials of their sessions are noted.
pub record AreTold (past : List PlainEntry) (stands : FlatView → Type 0) (serials : List (ℕ × ℕ)) : Type 0 where
  pub fit : AllFit [] past
  pub stood : stands (view_of past)
  pub noted : AreSerialsOf past serials

-- A part of the entries was told: these are told now, and unless nodes were swept away they only came in. Or one does not fit.
abbrev pub IsRetold : (entries past : List PlainEntry) → (FlatView → Type 0) → List (ℕ × ℕ) → WorldNodes → WorldNodes → Retold → Type 0
IsRetold entries past stands serials old new (retold.Unfit at) = IsUnfitFrom at entries
IsRetold entries past stands serials old new (retold.Whole swept) = AreTold past stands serials × (swept ≡ false → AllGrown old new)

-- The entries fit one after another, the world stands for what they build, and trees are gone on from for no more entries than
-- there are; or so many entries in front fit, and the one behind these does not.
abbrev pub IsRebuilt : List PlainEntry → (FlatView → Type 0) → Rebuilt → Type 0
IsRebuilt entries stands (rebuilt.Unfit at) = IsUnfitFrom at entries
IsRebuilt entries stands (rebuilt.Whole flushed goes_on) = AllFit [] entries × stands (view_of entries) × (flushed ≤ length entries)

-- ---- trees that were loaded

-- these are what was loaded, and they pass the tests
abbrev pub AreTreesAt : Option (Trees × ℕ) → Option TreesAt → Type 0
AreTreesAt None None = Unit {0}
AreTreesAt (Some loaded) (Some at) = AreLoaded loaded.0 at.trees × (loaded.1 ≡ at.position)
AreTreesAt None (Some at) = ⊥
AreTreesAt (Some loaded) None = ⊥

-- The world goes on from these trees, which stand for its first entries. Where they stand for all, it is in their condition. The
-- next save may go on too, unless nodes were swept away behind them.
pub record GoesOn (at : TreesAt) (entries : List PlainEntry) (shape : Condition) (nodes : WorldNodes) (flushed : ℕ) (goes_on : Bool) : Type 0 where
  pub stand : StandAt at entries
  pub flushed_is : flushed ≡ at.position
  pub condition : at.position ≡ length entries → AreIn at.trees shape
  pub grown : goes_on ≡ true → HaveGrownFrom at.trees nodes

-- no trees are gone on from
abbrev pub IsAfresh : ℕ → Bool → Type 0
IsAfresh flushed goes_on = (flushed ≡ 0) × (goes_on ≡ false)

-- the trees are gone on from exactly where they stand for first entries
abbrev pub MayHaveGoneOn : Option TreesAt → List PlainEntry → Condition → WorldNodes → Rebuilt → Type 0
MayHaveGoneOn now entries condition nodes (rebuilt.Unfit at) = Unit {0}
MayHaveGoneOn None entries condition nodes (rebuilt.Whole flushed goes_on) = IsAfresh flushed goes_on
MayHaveGoneOn (Some at) entries condition nodes (rebuilt.Whole flushed goes_on) =
    GoesOn at entries condition nodes flushed goes_on ⊎ ((¬ StandAt at entries) × IsAfresh flushed goes_on)

-- what the trees' adoption and a sweep behind it come to, where all entries fit
abbrev pub came_to : Bool → Bool → ℕ → Rebuilt
came_to false swept position = rebuilt.Whole 0 false
came_to true swept position = rebuilt.Whole position (not swept)

-- what is known of the pages is as it was, or the next save writes every stream anew
abbrev pub IsSameOrRenewed : FlushView → FlushView → Type 0
IsSameOrRenewed old new = (new ≡ old) ⊎ IsRenewed old new
