pub mod Inverting
pub mod Items
pub mod Standing
pub mod Again
pub mod OneSpelling
