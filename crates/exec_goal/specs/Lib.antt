pub mod Calls
pub mod Cancel
pub mod Examples
pub mod Info
pub mod LawWords
pub mod State
pub mod Table
pub mod inner
