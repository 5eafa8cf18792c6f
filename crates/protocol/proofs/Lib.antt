pub mod Ends
pub mod Outcomes
