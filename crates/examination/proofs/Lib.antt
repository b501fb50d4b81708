pub mod Firsts
pub mod Nearest
pub mod Placed
pub mod Raised
