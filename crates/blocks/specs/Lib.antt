pub mod Drafts
pub mod Running
pub mod Proposing
