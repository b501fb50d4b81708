pub mod Faults
pub mod Formats
pub mod Layout
pub mod Opening
pub mod Readings
pub mod Rows
pub mod Spelling
