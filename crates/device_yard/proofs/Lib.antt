pub mod Sets
pub mod Nameless
