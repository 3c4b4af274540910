pub mod Ends
pub mod Migration
pub mod Pieces
pub mod Scan
