pub mod Moves
pub mod Admission
pub mod Steps
