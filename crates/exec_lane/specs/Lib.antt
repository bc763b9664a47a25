pub mod Examples
pub mod Gather
pub mod Lane
pub mod Opening
pub mod inner
