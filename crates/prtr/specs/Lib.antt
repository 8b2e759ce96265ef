pub mod Host
pub mod Write
