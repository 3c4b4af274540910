pub mod Addresses
pub mod Elders
pub mod Content
pub mod Listed
pub mod Named
pub mod Runs
pub mod Whole
