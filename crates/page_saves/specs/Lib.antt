pub mod Courses
pub mod Plans
pub mod Resting
pub mod inside
