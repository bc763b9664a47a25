pub mod Cells
pub mod Flat
pub mod Frame
pub mod TextBytes
pub mod Places
pub mod SetWords
pub mod Steps
