pub mod Holds
pub mod Outline
pub mod Frame
pub mod Posts
