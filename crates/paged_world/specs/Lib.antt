pub use Rattle.world_pages.specs.Pages
pub use Rattle.green_flush.specs.Loads
pub use Rattle.green_flush.specs.Standing as FlushStanding
pub use Rattle.tree_world.specs.Nodes
pub use Rattle.tree_world.specs.Condition
pub mod Standing
pub mod inside
