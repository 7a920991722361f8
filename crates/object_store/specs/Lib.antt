pub mod Call
pub mod Calls
pub mod Content
pub mod Deaf
pub mod Memory
pub mod Place
pub mod Shelf
