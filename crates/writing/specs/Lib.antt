pub mod Faults
pub mod Writes
pub mod Written
