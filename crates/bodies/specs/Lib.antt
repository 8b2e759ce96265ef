pub mod Setup
pub mod Stage
pub mod Part
