pub mod Marking
pub mod Reaching
pub mod Whole
pub mod StillReached
pub mod Counted
pub mod OneTree
pub mod Renamed
pub mod Finished
