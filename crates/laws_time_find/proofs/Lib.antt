pub mod Timing
pub mod Turning
pub mod Damaging
pub mod Dates
pub mod Moments
pub mod Searched
pub mod Early
pub mod GoingOn
