pub mod ListView
pub mod Places
pub mod Reach
pub mod Span
pub mod Address
pub mod Laws
pub mod Padded
pub mod ListLends
