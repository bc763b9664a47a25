pub mod Fault
pub mod Instruction
pub mod LawWords
pub mod Legality
pub mod Script
pub mod Spelling
pub mod Zeros
pub mod inner
