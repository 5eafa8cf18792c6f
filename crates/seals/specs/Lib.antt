pub mod Meaning
pub mod Tags
pub mod Lists
