-- Where searches end. No public clause cites these.
pub mod Places
