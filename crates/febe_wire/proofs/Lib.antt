pub mod RequestLaws
pub mod RequestScans
pub mod PartScans
pub mod PartsTaken
pub mod RequestsTaken
