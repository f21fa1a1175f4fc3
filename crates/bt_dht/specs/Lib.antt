pub mod Questions
pub mod Datagrams
pub mod Messages
pub mod Nodes
pub mod Distances
