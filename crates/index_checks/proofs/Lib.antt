pub mod SortedSame
pub mod RowOrder
pub mod Reaching
pub mod CoveredRows
pub mod RunRows
