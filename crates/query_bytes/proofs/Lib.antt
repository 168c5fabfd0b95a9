pub mod Queries
pub mod Writing
