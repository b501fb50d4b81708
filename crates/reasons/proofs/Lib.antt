pub mod Depths
pub mod Places
