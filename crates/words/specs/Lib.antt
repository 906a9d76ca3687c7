pub mod Sets
pub mod Past
pub mod Tables
