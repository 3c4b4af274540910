-- What the table keeps, and how it shows as links. No public clause cites these.
pub mod Kept
pub mod Pairs
pub mod Joined
pub mod Read
