pub mod Asked
pub mod Breaks
