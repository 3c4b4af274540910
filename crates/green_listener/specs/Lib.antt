pub mod Listened
