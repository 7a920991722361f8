mod Fields
pub mod Options
pub mod Wider
pub mod Ends
pub mod Within
mod Swaps
mod Keeps
pub mod Tests
pub mod SameRefusals
mod Joins
mod Least
mod LogRows
pub mod AppendRow
pub mod NewEpoch
mod ElectionRows
mod LearnRow
mod FollowerRows
mod AckRow
mod ReplicaRows
mod TierRows
mod ReadRows
pub mod StepLaw
pub mod FreshLaw
pub mod Grows
pub mod Replays
mod Example
mod Elections
mod RowGrows
mod RowsGrow
pub mod StepsGrow
