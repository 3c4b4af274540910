pub use Rattle.febe_data.specs.ListView
pub use Rattle.febe_data.specs.Plain
pub use Rattle.febe_data.specs.Validity
pub mod Logged
pub mod Format
pub mod Bodies
pub mod Laws
pub mod Reading
