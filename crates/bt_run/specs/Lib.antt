pub mod Commands
pub mod Endings
pub mod Hinting
pub mod Options
pub mod Others
pub mod Runs
pub mod Hints
pub mod Windows
