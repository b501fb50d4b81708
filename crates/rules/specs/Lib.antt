pub mod States
pub mod Steps
pub mod Closing
pub mod Matching
pub mod Gate
pub mod Minus
pub mod Worked
pub mod Promise
