pub mod TableRows
pub mod Sound
pub mod inside
