pub mod Steps
pub mod Ring
pub mod Stock
pub mod Codes
pub mod Numbered
pub mod Tallies
pub mod Meaning
