pub mod Listed
pub mod Sound
pub mod inside
pub use Rattle.enfilade_core.specs.Rows
