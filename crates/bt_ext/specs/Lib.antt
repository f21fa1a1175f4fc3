-- what is promised
pub mod Ids
pub mod Payloads
pub mod Fields
pub mod Metadata
pub mod Faults
pub mod Judged
pub mod Tables
pub mod Made
pub mod Updates
pub mod Laws
-- what only the contracts of functions that are not public cite
pub mod Holding
pub mod Ordered
