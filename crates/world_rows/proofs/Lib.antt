pub mod Ascends
pub mod Entries
pub mod Turns
