pub mod Datagrams
pub mod Distances
pub mod Questions
