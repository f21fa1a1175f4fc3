pub mod Doors
pub mod Guests
pub mod Services
pub mod Arrivals
