pub mod Chosen
pub mod Tested
pub mod Flushed
