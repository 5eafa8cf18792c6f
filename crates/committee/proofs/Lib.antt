pub mod Members
pub mod Weights
