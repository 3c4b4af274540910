pub use Rattle.enfilade_core.specs.Rows
pub mod Steps
pub mod OneStep
pub mod Depth
pub mod Path
pub mod Laws
