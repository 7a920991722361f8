mod Faulting
pub mod MemoryDevices
mod Opening
mod Planning
mod Scripted
pub mod Running
