pub mod FrontFalls
pub mod Rests
pub mod TreeFalls
pub mod Trees
