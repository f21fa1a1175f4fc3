pub mod Unique
pub mod Passing
pub mod Lookups
pub mod Files
