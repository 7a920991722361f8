pub mod Kept
pub mod Name
pub mod Object
pub mod Path
pub mod Unfinished
pub mod Yard
