pub mod Beside
pub mod Crash
pub mod Kept
