pub mod Bundling
pub mod Packing
