pub mod page
