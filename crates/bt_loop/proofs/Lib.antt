pub mod Carried
pub mod Counted
pub mod Fetching
pub mod LoopFetch
pub mod LoopPair
pub mod Looping
pub mod Passing
