pub mod Audits
pub mod Sweeps
pub mod Tiers
