-- Views whose lists lie in another order.
use Rattle.std.specs.Prelude.{◌≡◌, ℕ, ◌&&◌, Bool, List, Option, IsPermutation}
use Rattle.std.specs.List.{find}
use Rattle.world_rules.specs.World.{World, LinkRow, is_same}
use Rattle.world_rules.specs.FlatView.{FlatView}

-- the same world but for its documents and links
abbrev pub with_lists : World → List (List ℕ) → List LinkRow → World
with_lists world documents links = record world { documents = documents; links = links }

-- the first link of that id whose home is read
abbrev pub first_read : List LinkRow → (reads : List ℕ → Bool) → (id : List ℕ) → Option LinkRow
first_read links reads id = find (λ (link : LinkRow). reads link.home && is_same link.id id) links

-- The other view has the documents and the links in whatever order, and is the same in all else. Where several links
-- have one id, the same comes first, whichever homes are read.
pub record IsTurned (view other : FlatView) : Type 0 where
  pub documents : IsPermutation view.world.documents other.world.documents
  pub links : IsPermutation view.world.links other.world.links
  pub by_id : (reads : List ℕ → Bool) (id : List ℕ) → first_read view.world.links reads id ≡ first_read other.world.links reads id
  pub rest : other ≡ record view { world = with_lists view.world other.world.documents other.world.links }

-- the view is a turned one of a view for which this holds
pub record IsTurnedOf (stands : FlatView → Type 0) (view : FlatView) : Type 0 where
  pub base : FlatView
  pub stood : stands base
  pub turned : IsTurned base view
