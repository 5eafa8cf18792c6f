pub mod Reads
pub mod Execution
pub mod Calls
