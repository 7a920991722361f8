pub mod Control
pub mod YardContent
pub mod Laws
pub mod Plan
