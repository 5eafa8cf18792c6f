pub mod Lists
pub mod Finds
pub mod Orders
pub mod Earliest
pub mod Changes
pub mod Listed
pub mod Signs
