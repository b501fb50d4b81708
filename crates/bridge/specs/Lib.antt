pub mod Answers
pub mod Bytes
pub mod Calls
pub mod Codes
pub mod Laid
pub mod Sums
pub mod Tables
pub mod Traces
