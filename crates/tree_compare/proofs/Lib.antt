pub mod SideBySide
pub mod Addresses
pub mod Parts
pub mod RowParts
pub mod RowsBeside
pub mod Lent
pub mod InOrder
