pub mod Told
pub mod Taken
pub mod Viewed
pub mod Rested
pub mod Midway
pub mod Sweeps
pub mod Went
pub mod Leaving
