pub mod Dating
pub mod Over
pub mod LocalRuns
pub mod Outcomes
