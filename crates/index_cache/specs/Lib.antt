pub mod Cache
pub mod Lending
