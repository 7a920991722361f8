pub mod Seen
pub mod Dump
pub mod Fields
pub mod Indexes
pub mod Lists
pub mod Notes
pub mod Entries
pub mod Walked
