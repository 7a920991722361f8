pub mod Rest
pub mod Sweeping
pub mod Parts
