pub mod Edges
pub mod Examination
pub mod Expressions
pub mod Gate
pub mod Lists
pub mod Records
pub mod Sites
