mod Texts
pub mod Lengths
