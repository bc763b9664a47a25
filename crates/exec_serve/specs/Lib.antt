pub mod LawWords
pub mod Serving
pub mod inner
