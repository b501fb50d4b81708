pub mod Flaws
pub mod Wrongs
