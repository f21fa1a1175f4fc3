pub mod Compact
pub mod Takeable
