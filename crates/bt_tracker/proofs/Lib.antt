pub mod Ports
pub mod Texts
