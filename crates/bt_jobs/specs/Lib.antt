pub mod Printed
pub mod Packs
pub mod PackSteps
pub mod PackLaws
pub mod PackHints
pub mod Others
