pub mod Seen
pub mod Inside
pub mod Effects
pub mod Failure
pub mod Write
pub mod Read
pub mod Open
