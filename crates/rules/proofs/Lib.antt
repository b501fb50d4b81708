mod Agreeing
mod Calls
pub mod Closed
pub mod Examined
pub mod Fates
pub mod Gate
mod Guards
pub mod Lists
mod Moves
mod Others
pub mod Promised
pub mod Runs
mod Ticks
mod Twins
mod Worked
