pub mod Seen
pub mod Isolation
pub mod Isolated
pub mod AskedInOrder
