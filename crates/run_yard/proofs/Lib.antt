mod Back
mod Ended
mod Faults
mod Out
mod Ran
mod Stopped
pub mod Looks
pub mod UsesOf
