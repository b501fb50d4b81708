pub mod Faults
pub mod Worlds
