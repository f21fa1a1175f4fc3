pub mod Payloads
pub mod Passing
pub mod Taking
pub mod Turning
pub mod Orders
pub mod Gaps
pub mod Links
