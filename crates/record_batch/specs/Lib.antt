pub mod Head
pub mod Record
pub mod Size
pub mod Build
pub mod Stamp
pub mod Check
pub mod Walk
pub mod Read
