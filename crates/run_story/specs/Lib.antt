pub mod Change
pub mod Moments
pub mod Stories
