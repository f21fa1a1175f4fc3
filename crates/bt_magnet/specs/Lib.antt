pub mod Base32
pub mod Hashes
pub mod Links
pub mod Lists
pub mod Peers
