pub mod Names
pub mod Hellos
pub mod Listening
pub mod Hearing
pub mod Settling
