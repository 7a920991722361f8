pub mod Inverting
pub mod Mapping
pub mod Standing
pub mod OneSpelling
pub mod Again
