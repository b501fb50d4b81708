pub mod Dealing
pub mod Example
pub mod Histories
pub mod Memories
