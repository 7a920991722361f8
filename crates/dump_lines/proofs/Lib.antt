pub mod Lists
pub mod Kept
pub mod Reading
pub mod Going
pub mod Entered
pub mod Walked
