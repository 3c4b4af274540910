pub mod Counts
pub mod Serving
pub mod inside
