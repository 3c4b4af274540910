pub mod Sound
pub mod Loads
pub mod Standing
pub mod inside
pub use Rattle.page_trees.specs.Trees
