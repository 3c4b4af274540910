pub mod Decimals
pub mod Joins
pub mod Forms
pub mod Walks
