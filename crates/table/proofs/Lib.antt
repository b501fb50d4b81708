pub mod Forms
pub mod Passing
pub mod Scans
pub mod Windows
