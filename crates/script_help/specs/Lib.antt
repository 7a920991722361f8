pub mod Asked
pub mod Places
pub mod Shown
pub mod Wanted
