pub mod Ranges
pub mod Loops
