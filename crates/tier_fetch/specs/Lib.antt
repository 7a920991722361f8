pub mod Span
pub mod Turns
