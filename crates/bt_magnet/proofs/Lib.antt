pub mod Digits
pub mod Ports
pub mod Values
