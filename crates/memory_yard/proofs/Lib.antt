pub mod Devices
pub mod Finds
pub mod Firsts
pub mod Loops
pub mod Named
pub mod Slots
pub mod Without
pub mod Logs
