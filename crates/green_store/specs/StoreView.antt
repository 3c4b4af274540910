-- What contracts see of a store.
use Rattle.std.specs.Prelude.{◌≡◌, ℕ, List, [], ◌∷◌, ◌++◌}
use Rattle.febe_data.specs.LimitsView.{LimitsView}
use Rattle.febe_data.specs.Plain.{PlainEntry}
use Rattle.edit_log.specs.LogView.{LogView}
use Rattle.tree_world.specs.Condition.{Condition}
use Rattle.tree_world.specs.Nodes.{WorldNodes}
use Rattle.green_flush.specs.Standing.{FlushView}

-- its history, the moments at which its kept entries were made, what it holds at most, how far its log is, the condition of its trees, how many nodes these had once they
-- were last swept, or when the store opened, the nodes themselves, what is known of its pages, and for how many kept entries
-- these stand
pub record StoreView : Type 0 where
  pub history : List PlainEntry
  pub moments : List ℕ
  pub limits : LimitsView
  pub log : LogView
  pub trees : Condition
  pub base : ℕ
  pub nodes : WorldNodes
  pub flush : FlushView
  pub flushed : ℕ

-- one entry more, and all else as it was
abbrev pub with_one : StoreView → PlainEntry → StoreView
with_one view entry = record view { history = view.history ++ entry ∷ [] }

-- all but the trees and the pages is as it was
pub record StandsStill (before after : StoreView) : Type 0 where
  pub history : after.history ≡ before.history
  pub moments : after.moments ≡ before.moments
  pub limits : after.limits ≡ before.limits
  pub log : after.log ≡ before.log

-- what is known of the pages is as it was
pub record PagesStandStill (before after : StoreView) : Type 0 where
  pub flush : after.flush ≡ before.flush
  pub flushed : after.flushed ≡ before.flushed

-- the history is as it was, and so are the moments, the trees, down to their nodes, and the pages
pub record StandsAsBefore (before after : StoreView) : Type 0 where
  pub history : after.history ≡ before.history
  pub moments : after.moments ≡ before.moments
  pub trees : after.trees ≡ before.trees
  pub base : after.base ≡ before.base
  pub nodes : after.nodes ≡ before.nodes
  pub pages : PagesStandStill before after
