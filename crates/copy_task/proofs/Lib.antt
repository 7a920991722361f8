pub mod Mapping
pub mod Short
pub mod Splitting
pub mod Telling
