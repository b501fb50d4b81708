pub mod Held
pub mod Slots
