pub mod Changes
pub mod Least
