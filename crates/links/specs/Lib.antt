pub use Rattle.febe_data.specs.Address
pub use Rattle.world_rules.specs.World
pub mod LinkLists
pub mod Finding
pub mod Readable
pub mod inside
pub mod Laws
