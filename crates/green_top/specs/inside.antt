-- What only private functions cite.
pub mod Opening
pub mod Play
pub mod Stored
pub mod Behind
pub mod Next
pub mod Progress
pub mod Conversation
pub mod Enduring
pub mod Kept
pub mod Summing
pub mod Forms
