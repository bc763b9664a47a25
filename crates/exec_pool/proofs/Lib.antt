pub mod Crossing
pub mod Following
pub mod Seating
pub mod Steps
