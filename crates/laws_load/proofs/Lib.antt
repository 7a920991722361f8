mod Texts
mod Spelt
mod Counted
mod Lines
mod Rows
pub mod Read
