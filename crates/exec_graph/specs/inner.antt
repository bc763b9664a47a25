pub mod Directory
pub mod Gives
pub mod Places
