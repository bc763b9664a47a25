pub mod Decoding
pub mod Flats
pub mod Following
pub mod Frames
pub mod Lasting
pub mod Spelt
