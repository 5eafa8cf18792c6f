pub mod Arrivals
pub mod Roots
