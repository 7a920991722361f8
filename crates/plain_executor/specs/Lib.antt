pub mod Change
pub mod Complete
pub mod Fits
pub mod Stepped
pub mod Traces
