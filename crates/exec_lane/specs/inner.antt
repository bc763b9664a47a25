pub mod Buffered
pub mod Copies
pub mod Cuts
pub mod Spots
