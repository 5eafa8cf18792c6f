pub mod Slotted
pub mod Scanned
pub mod Changed
pub mod Waits
pub mod Answered
