pub mod inside
pub mod RowAddresses
pub mod Stretches
pub mod Laws
