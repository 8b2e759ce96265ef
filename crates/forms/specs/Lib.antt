pub mod Binary64
pub mod Pattern
pub mod Form
