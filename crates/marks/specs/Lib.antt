pub mod Instances
pub mod Rules
pub mod Words
