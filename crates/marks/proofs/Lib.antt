pub mod Bitwise
pub mod Counting
pub mod Good
pub mod Owning
pub mod Unique
