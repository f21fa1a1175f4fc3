pub mod Said
pub mod Numbers
pub mod Members
pub mod Parts
pub mod Refused
pub mod Rows
pub mod Fronts
