pub mod Filled
pub mod FoundQueues
pub mod Numbered
mod PlainFronts
mod Parts
