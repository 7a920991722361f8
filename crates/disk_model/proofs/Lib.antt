pub mod Attempts
pub mod Joined
pub mod Listed
pub mod Names
pub mod Past
pub mod Patches
pub mod Steps
pub mod Whole
