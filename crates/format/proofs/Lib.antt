pub mod Identifiers
pub mod Numbers
pub mod Lengths
pub mod Writes
pub mod Commands
pub mod Composed
pub mod Same
pub mod Order
