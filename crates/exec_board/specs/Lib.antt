pub mod inner
pub mod Board
pub mod Lending
pub mod Plays
pub mod Rule
pub mod Seats
pub mod Sweeps
