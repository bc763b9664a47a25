pub mod Entity
pub mod Feeding
pub mod Graph
pub mod Lawful
pub mod Names
pub mod Plan
pub mod Schedule
pub mod inner
