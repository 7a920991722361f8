pub mod Batch
pub mod Log
pub mod Line
