pub mod Continuing
pub mod Given
pub mod Held
pub mod ShownRuns
pub mod SoundTrees
pub mod Opening
pub mod Links
pub mod Tests
