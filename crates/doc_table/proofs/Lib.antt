pub mod Placed
pub mod Ordered
pub mod Counted
pub mod Changed
pub mod RootsSet
