pub mod Call
pub mod Calls
pub mod Content
pub mod Memory
