pub mod Job
pub mod Pair
pub mod Plays
pub mod inner
