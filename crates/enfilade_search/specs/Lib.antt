pub mod Meeting
pub mod Sought
pub mod Laws
pub mod Limits
