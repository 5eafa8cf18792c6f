pub mod Memory
pub mod Waiting
pub mod Meaning
