pub mod Tally
pub mod Page
pub mod Calls
