mod Blocks
pub mod Both
mod ByRules
pub mod Holes
mod Judging
mod Lenient
mod Peeling
mod Telling
mod Pushing
