pub mod Connections
pub mod Courses
pub mod Stops
pub mod Steps
pub mod Boths
pub mod Watches
pub mod Lists
pub mod Streams
