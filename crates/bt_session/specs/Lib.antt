pub mod Nodes
pub mod Reports
pub mod Runs
pub mod MessageLinks
pub mod ByteLinks
pub mod LinkLaws
pub mod FetchLaws
