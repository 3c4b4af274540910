pub mod NodeCodecs
pub mod Streaming
