pub mod Histories
pub mod Passes
pub mod Laws
pub mod inside
