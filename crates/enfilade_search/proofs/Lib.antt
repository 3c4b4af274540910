pub mod Touching
pub mod Skipping
pub mod Placing
pub mod Children
pub mod Gathering
pub mod Stopping
pub mod UpToLimit
pub mod Beside
