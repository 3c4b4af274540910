pub use Rattle.febe_data.specs.LimitsView
pub use Rattle.febe_data.specs.Plain
pub use Rattle.febe_data.specs.Validity
pub use Rattle.world_rules.specs.Apply
pub use Rattle.world_rules.specs.History
pub use Rattle.world_rules.specs.Holding
pub use Rattle.world_rules.specs.Legal
pub use Rattle.world_rules.specs.Isolated as WorldIsolated
pub use Rattle.entry_codec.specs.Logged
pub use Rattle.green_io.specs.Areas
pub use Rattle.green_io.specs.Disk
pub use Rattle.green_io.specs.Outside
pub use Rattle.entry_fits.specs.Fits
pub use Rattle.entry_fits.specs.Laws as EntryLaws
pub use Rattle.edit_log.specs.Images
pub use Rattle.edit_log.specs.Log
pub use Rattle.edit_log.specs.LogView
pub use Rattle.edit_log.specs.Second
pub use Rattle.tree_world.specs.Condition
pub use Rattle.tree_world.specs.Nodes
pub use Rattle.green_flush.specs.Loads
pub use Rattle.green_flush.specs.Standing as FlushStanding
pub use Rattle.paged_world.specs.Standing as PagedStanding
pub use Rattle.history_lock.specs.Histories
pub mod Sessions
pub mod Steps
pub mod StoreView
pub mod TimedStep
pub mod IsStep
pub mod Isolated
pub mod IsStore
pub mod LeavesLive
pub mod Laws
pub mod Durable
pub mod Paged
pub mod Opening
pub mod Replayed
pub mod HousedView
pub mod Marks
pub mod HousePlays
pub mod inside
