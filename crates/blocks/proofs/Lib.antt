pub mod Children
pub mod Runs
pub mod KnownCommands
pub mod BlockRuns
pub mod Requests
pub mod Drafts
