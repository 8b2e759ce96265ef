pub mod Input
pub mod Output
pub mod Record
pub mod Trouble
