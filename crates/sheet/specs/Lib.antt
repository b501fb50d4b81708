pub mod Bits
pub mod Cut
pub mod Example
pub mod Views
