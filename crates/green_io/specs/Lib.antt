pub mod Areas
pub mod Clock
pub mod Disk
pub mod Folder
pub mod Outside
