pub mod Bisect
pub mod Laws
pub mod Nines
pub mod Order
pub mod Runs
