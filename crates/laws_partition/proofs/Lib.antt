pub mod Parts
pub mod Writes
pub mod BoolTests
mod Refusing
pub mod Lines
mod Meets
pub mod Counted
pub mod RegistryLaw
pub mod NodeLaw
pub mod SoundLaw
pub mod Lists
pub mod FreshSound
pub mod Standing
mod BreakRows
mod OwnRows
mod ElectionRows
pub mod LearnRows
pub mod FollowRows
pub mod FactsShown
mod FollowOnRows
mod TierRows
mod OffsetRows
pub mod TurnRows
pub mod ProgressLaw
pub mod CentralLaw
pub mod CompleteLaw
pub mod RebuildRows
pub mod TrimRows
