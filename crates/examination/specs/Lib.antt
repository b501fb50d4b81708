pub mod Firsts
pub mod Locations
