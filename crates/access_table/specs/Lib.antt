pub use Rattle.febe_data.specs.Access
pub use Rattle.world_rules.specs.World
pub use Rattle.world_rules.specs.Apply
pub mod AccessRows
pub mod inside
