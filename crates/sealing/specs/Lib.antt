pub mod Seals
pub mod Summary
