pub mod Held
pub mod Rooted
