pub mod Plans
pub mod Planned
pub mod Devices
pub mod Run
