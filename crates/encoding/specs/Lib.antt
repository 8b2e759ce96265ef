pub mod Each
pub mod Bytes
