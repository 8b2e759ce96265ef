pub mod Decline
pub mod Class
pub mod Content
pub mod Threshold
pub mod Treatment
pub mod Filed
