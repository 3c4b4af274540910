pub mod Feeds
pub mod Pieces
pub mod Inputted
pub mod Malformed
pub mod BadPlaces
