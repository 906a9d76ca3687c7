pub mod Days
pub mod Digits
pub mod Tables
pub mod Told
