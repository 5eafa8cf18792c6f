pub mod Back
pub mod Cleared
pub mod Dense
pub mod Places
pub mod Tried
