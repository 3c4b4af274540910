pub mod Allowed
pub mod Bytes
pub mod Images
pub mod Model
pub mod Replays
