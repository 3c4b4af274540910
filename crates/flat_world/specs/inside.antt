pub mod ByteIndex
