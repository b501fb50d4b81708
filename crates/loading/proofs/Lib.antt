pub mod Built
pub mod Chaining
pub mod Filling
pub mod Following
pub mod Limited
