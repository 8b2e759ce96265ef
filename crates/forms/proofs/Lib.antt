pub mod Numerals
pub mod Within
