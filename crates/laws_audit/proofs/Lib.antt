pub mod Within
pub mod Stored
pub mod Resting
pub mod Sweeping
