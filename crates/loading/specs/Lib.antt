pub mod Copies
pub mod Following
pub mod Indexing
pub mod Loading
