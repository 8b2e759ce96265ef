pub mod Bound
pub mod Laws
pub mod Worked
