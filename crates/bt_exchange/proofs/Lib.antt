pub mod Courses
pub mod Moves
pub mod Nexts
pub mod Steps
pub mod Lists
pub mod Pieces
pub mod Watches
