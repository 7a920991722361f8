pub mod Parted
pub mod Chains
pub mod BytesLaws
pub mod OffsetLaws
pub mod TimeLaws
