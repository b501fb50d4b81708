pub mod Cutting
pub mod Examples
pub mod Wholes
