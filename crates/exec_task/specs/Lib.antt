pub mod Call
pub mod Examples
pub mod Goal
pub mod LawWords
pub mod Task
pub mod Wake
pub mod Waking
