-- Worlds that some view is told by.
use Rattle.world_rules.specs.FlatView.{FlatView}

-- there is a view that they stand for
pub record StandsForSome (Stands : FlatView → Type 0) : Type 0 where
  pub view : FlatView
  pub stands : Stands view
