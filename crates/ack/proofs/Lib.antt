pub mod Back
pub mod Onward
pub mod Tour
pub mod Whole
pub mod Ways
