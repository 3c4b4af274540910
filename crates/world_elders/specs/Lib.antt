pub use Rattle.world_rules.specs.World
pub use Rattle.world_rules.specs.Readable
pub use Rattle.world_rules.specs.Apply
pub use Rattle.world_rules.specs.Placed
pub mod Whole
pub mod Laws
