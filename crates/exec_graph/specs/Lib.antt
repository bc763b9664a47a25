pub mod Faults
pub mod Numbers
pub mod Refusals
pub mod Resolved
pub mod Scripts
pub mod inner
