pub mod Opens
pub mod Run
pub mod Handed
pub mod Reading
pub mod Refusals
pub mod Runs
pub mod Yard
pub mod Stopped
