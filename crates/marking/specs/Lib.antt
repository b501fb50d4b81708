pub mod Example
pub mod Flows
pub mod Instances
pub mod Leads
pub mod Searching
