pub mod Dealing
pub mod HeldLanes
pub mod InOrder
pub mod Openings
pub mod Rounding
pub mod Sends
