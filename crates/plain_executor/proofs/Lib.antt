pub mod Splits
pub mod Joined
pub mod Commons
pub mod Least
pub mod Longer
pub mod Parts
pub mod Room
pub mod Outcomes
pub mod Actors
pub mod Safety
pub mod Taken
pub mod Verdicts
pub mod Tally
pub mod Completion
pub mod Fitting
mod Refused
