pub mod Reading
pub mod Phases
pub mod Courses
pub mod Opening
