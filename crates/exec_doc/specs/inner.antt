pub mod Answering
pub mod Gathering
pub mod Picking
pub mod Placing
pub mod Reading
pub mod Taking
