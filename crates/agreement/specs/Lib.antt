pub mod Lists
pub mod Blocks
pub mod Ledger
pub mod Runs
pub mod Agreement
pub mod Instance
pub mod Worked
