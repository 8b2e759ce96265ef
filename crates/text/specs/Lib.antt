pub mod Writing
pub mod Number
pub mod Line
pub mod Print
