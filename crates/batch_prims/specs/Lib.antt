pub mod Braid
pub mod Crc
pub mod Varint
