pub mod Raising
pub mod Copied
