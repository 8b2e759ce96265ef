pub mod Pressure
pub mod Steps
pub mod Worked
