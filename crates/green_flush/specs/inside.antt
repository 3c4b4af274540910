pub mod Streaming
pub mod Finding
pub mod Owning
pub mod Showing
pub mod Ends
