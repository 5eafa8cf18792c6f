pub mod Rules
pub mod Weights
pub mod Meaning
