pub mod Covered
pub mod inside
