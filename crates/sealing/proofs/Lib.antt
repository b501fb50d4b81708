pub mod Fitting
pub mod Sealing
pub mod Summaries
pub mod Texts
pub mod Writable
