pub mod Filled
pub mod Fields
pub mod Kinded
pub mod Backs
pub mod Readings
pub mod Begins
pub mod Cells
pub mod Celled
