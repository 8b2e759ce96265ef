pub mod Places
pub mod Accepted
pub mod Blocks
pub mod Shows
pub mod Steps
pub mod Sheets
pub mod Calls
pub mod Claims
