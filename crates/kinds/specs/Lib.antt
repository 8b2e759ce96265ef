pub mod Account
pub mod Fields
pub mod Kind
