pub mod Held
pub mod Ids
pub mod Places
pub mod Tally
