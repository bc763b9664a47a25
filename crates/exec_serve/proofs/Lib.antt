pub mod Bytes
pub mod CutOff
pub mod Framing
pub mod Outcomes
pub mod Put
pub mod Served
