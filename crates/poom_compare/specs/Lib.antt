pub use Rattle.poom.specs.Laid
pub use Rattle.world_rules.specs.Relation
pub mod Shared
pub mod Segments
pub mod Placed
