pub mod Entries
pub mod Keyed
pub mod Writers
pub mod Ending
