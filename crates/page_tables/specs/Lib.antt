pub mod Plain
pub mod TableBytes
pub mod TableReading
pub mod Laws
