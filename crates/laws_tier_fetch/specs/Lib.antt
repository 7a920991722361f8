pub mod Seeking
pub mod Turns
pub mod Runs
pub mod Damage
pub mod Spans
