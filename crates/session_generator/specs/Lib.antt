pub use Rattle.tumbler.specs.Places
pub use Rattle.tumbler.specs.Span
pub use Rattle.febe_data.specs.Generator
pub use Rattle.febe_data.specs.Plain
pub use Rattle.febe_data.specs.Validity
pub mod Generated
