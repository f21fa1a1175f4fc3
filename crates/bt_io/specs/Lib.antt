pub mod Counts
pub mod Seen
pub mod Devices
pub mod Outbox
