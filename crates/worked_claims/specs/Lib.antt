pub mod Reread
pub mod Stock
