pub mod Order
pub mod Addressed
pub mod Points
