pub use Rattle.febe_data.specs.Plain
pub use Rattle.febe_data.specs.Validity
pub use Rattle.febe_reply.specs.ReplyGrammar
pub use Rattle.febe_feed.specs.FeedView
pub use Rattle.green_io.specs.Outside
pub mod Putting
pub mod Taking
pub mod inside
