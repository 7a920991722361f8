pub mod Fronts
pub mod Opens
pub mod Reopens
pub mod Runs
pub mod Publishes
pub mod Rewrites
pub mod Stands
