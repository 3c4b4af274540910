pub mod Index
pub mod Keys
pub mod Groups
pub mod Apart
pub mod Laws
