mod Loading
mod Kept
pub mod Past
