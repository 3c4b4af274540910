pub mod Blanks
pub mod Fresh
pub mod Spells
