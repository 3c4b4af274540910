pub use Rattle.enfilade_core.specs.Rows
pub mod Sweep
pub mod Laws
pub mod Marks
pub mod Plan
