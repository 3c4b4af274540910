-- How the counts of entries are kept, what specs pick from trees, what an account may read of them, what ends are to meet, trees of the same rows or without other nodes, and marks of documents. No public clause cites these.
pub mod Counted
pub mod Seen
pub mod Reads
pub mod Met
pub mod InEnds
pub mod Asked
pub mod SameRows
pub mod Swept
pub mod Marked
pub mod Wanted
