pub mod Appended
pub mod TableCodecs
