pub mod Changing
pub mod Eight
mod Viewing
mod Keeping
