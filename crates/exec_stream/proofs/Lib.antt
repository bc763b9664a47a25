pub mod Balances
pub mod Collected
pub mod Crossing
pub mod GoingOn
pub mod Places
pub mod PlacesNoted
pub mod SentOn
