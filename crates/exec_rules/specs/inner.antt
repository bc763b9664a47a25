pub mod Awake
pub mod ByKind
pub mod Handling
pub mod Listing
pub mod Numbering
pub mod Places
