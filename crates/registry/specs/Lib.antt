pub mod Replicas
pub mod Registry
pub mod Calls
pub mod View
