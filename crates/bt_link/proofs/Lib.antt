pub mod Sayings
pub mod Reading
pub mod Texts
pub mod Lengths
pub mod Running
