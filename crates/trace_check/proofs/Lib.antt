pub mod Journals
pub mod Places
pub mod Partitions
pub mod Refuted
pub mod Found
pub mod WrittenRuns
