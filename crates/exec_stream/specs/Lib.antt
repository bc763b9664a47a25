pub mod Outcomes
pub mod Sending
pub mod Sent
pub mod Streams
