pub mod BrokerTiers
pub mod TierTasks
pub mod Turns
pub mod Laws
