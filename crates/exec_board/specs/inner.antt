pub mod Homes
pub mod Order
pub mod Visits
