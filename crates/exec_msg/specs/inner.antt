pub mod Lazy
pub mod NameTexts
pub mod Packed
