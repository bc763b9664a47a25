pub mod Arranged
mod Begun
pub mod Committed
pub mod Giving
pub mod Grouped
pub mod HandedOut
pub mod InArrival
mod KeptBanks
pub mod ListedFronts
pub mod Polled
pub mod PlanScripts
pub mod Snapshots
pub mod Sound
pub mod Wired
