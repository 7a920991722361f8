pub mod Rows
pub mod Capped
pub mod Splitting
pub mod FromFront
pub mod Sound
pub mod Fitting
pub mod Spelled
