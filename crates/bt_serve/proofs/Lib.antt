pub mod Doors
pub mod LastTold
pub mod Services
pub mod Reacting
pub mod Tallies
mod Answering
