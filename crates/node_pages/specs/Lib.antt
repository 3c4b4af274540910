pub use Rattle.enfilade_core.specs.Rows
pub use Rattle.enfilade_core.specs.Axes
pub use Rattle.enfilade_core.specs.WellFormed
pub mod NodeBytes
pub mod NodeReading
pub mod Streams
pub mod Laws
pub mod RowCodecs
