pub mod Queue
pub mod Slots
