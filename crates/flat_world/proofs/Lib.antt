pub mod ByteIndexes
pub mod Retrieved
pub mod Endings
