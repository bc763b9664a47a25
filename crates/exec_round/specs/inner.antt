pub mod Begun
pub mod Commits
pub mod Running
pub mod Shares
