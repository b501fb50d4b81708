pub mod Evaluations
pub mod Stacks
