pub mod FlushView
pub mod Saving
pub mod inside
