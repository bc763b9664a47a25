pub mod Moments
pub mod Waking
