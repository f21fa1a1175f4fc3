pub mod Numbers
pub mod Streams
pub mod Held
pub mod Directions
pub mod Laws
pub mod States
pub mod Links
