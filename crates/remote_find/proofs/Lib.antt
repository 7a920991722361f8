pub mod Clipping
pub mod Covering
pub mod Epochs
pub mod Following
