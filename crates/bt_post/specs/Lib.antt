pub mod Exchanges
pub mod Lookups
