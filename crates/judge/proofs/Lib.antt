pub mod Kept
pub mod Seen
pub mod Found
pub mod Whole
pub mod Ties
