pub mod Readings
pub mod Judges
pub mod Holes
pub mod Laws
