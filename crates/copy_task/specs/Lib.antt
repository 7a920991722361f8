pub mod Source
pub mod Copying
pub mod Candidate
pub mod Turns
