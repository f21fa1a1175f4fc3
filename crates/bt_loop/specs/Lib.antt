pub mod Loops
pub mod MemWires
pub mod Rounds
pub mod Runs
pub mod Wires
