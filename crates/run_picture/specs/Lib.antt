pub mod Part
pub mod Spans
