pub mod Keeping
pub mod Numbered
pub mod Polling
pub mod Server
pub mod Servers
pub mod Waking
