pub mod Fold
pub mod Laying
pub mod Lookup
pub mod Places
pub mod Spread
pub mod Stairs
pub mod Storing
