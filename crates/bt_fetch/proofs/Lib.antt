pub mod Counts
pub mod Courses
pub mod Stops
pub mod Visits
