pub mod Names
pub mod OurNames
