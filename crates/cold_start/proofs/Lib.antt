pub mod Causes
pub mod Clearing
pub mod ColdLaw
pub mod ColdSeen
pub mod ColdWorldLaw
pub mod CutLaw
pub mod Leaving
pub mod Opened
pub mod Registries
pub mod RegistryRows
pub mod RegistrySteps
pub mod StandLaw
pub mod Stepping
pub mod SweptWorldLaw
mod Since
mod LogRows
mod LogSteps
mod During
pub mod Through
