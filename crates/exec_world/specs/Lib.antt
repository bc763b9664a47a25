pub mod Faults
pub mod Heavy
pub mod inner
