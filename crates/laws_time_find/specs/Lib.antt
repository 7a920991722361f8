pub mod Passed
pub mod Searching
pub mod Turns
pub mod Answers
