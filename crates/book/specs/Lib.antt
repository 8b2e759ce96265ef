pub mod Ledger
pub mod Site
pub mod Entry
pub mod Posts
pub mod Block
pub mod Blocks
pub mod Steps
