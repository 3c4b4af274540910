pub mod Content
pub mod Steps
pub mod Puts
pub mod Leaves
pub mod Lengthening
pub mod Whole
