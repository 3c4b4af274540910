-- What only private functions cite, and what holds inside of types.
pub mod IsFeed
pub mod Greetings
pub mod HeldView
