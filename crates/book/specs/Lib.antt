pub mod Books
pub mod Calls
pub mod Example
pub mod Faults
pub mod Histories
