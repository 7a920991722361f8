pub mod Line
pub mod Meet
pub mod Text
