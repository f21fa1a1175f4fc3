pub mod Courses
pub mod Items
pub mod Keeping
pub mod More
pub mod Near
pub mod Reading
pub mod Runs
