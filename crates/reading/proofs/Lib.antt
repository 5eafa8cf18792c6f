pub mod Fronts
pub mod Moves
pub mod Heads
pub mod Runs
pub mod ReadBacks
pub mod OnlyBytes
pub mod RoundTrips
pub mod Frames
