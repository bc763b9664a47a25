pub mod Arrivals
pub mod Examples
pub mod Exchanges
pub mod Goals
