pub mod FirstPlaces
pub mod Lengths
mod Cells
mod Digits
pub mod NameFields
pub mod Places
pub mod Queues
pub mod NextCall
