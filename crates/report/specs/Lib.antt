pub mod Fate
pub mod Report
pub mod Steps
