pub mod Files
pub mod Bencoded
pub mod Torrents
