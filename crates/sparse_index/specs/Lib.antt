pub mod Entries
pub mod Bytes
pub mod Offsets
pub mod Columns
pub mod Times
pub mod Reading
