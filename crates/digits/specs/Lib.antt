pub mod Bytes
pub mod LittleEndian
pub mod Hex
pub mod Stores
