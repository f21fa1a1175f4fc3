pub mod Members
pub mod Objects
