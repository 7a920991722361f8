pub mod Whole
pub mod Chain
pub mod Verdicts
pub mod Status
pub mod Places
pub mod Written
