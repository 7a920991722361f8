mod Calls
mod Listed
pub mod Parts
mod Pieces
mod Slots
mod Updated
