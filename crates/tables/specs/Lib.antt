pub mod Limits
pub mod Held
pub mod Dense
pub mod Within
pub mod Meaning
