pub mod Blocks
pub mod Arrivals
pub mod Assemblies
pub mod Unfinished
pub mod Sound
pub mod Replies
pub mod Served
pub mod Laws
