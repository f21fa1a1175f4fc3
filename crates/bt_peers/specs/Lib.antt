pub mod Searches
pub mod Words
