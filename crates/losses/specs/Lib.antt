pub mod Coefficient
pub mod Whole
pub mod Loss
