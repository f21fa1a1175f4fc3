pub mod Entries
pub mod Scripts
pub mod Shown
pub mod Runs
