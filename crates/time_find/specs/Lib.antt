pub mod Dates
pub mod Passing
pub mod Turns
