pub mod Pairs
pub mod Waiting
