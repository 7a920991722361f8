pub mod Whole
pub mod Flaws
pub mod Asking
pub mod Logs
pub mod Entries
pub mod Texts
pub mod Strays
pub mod Copies
