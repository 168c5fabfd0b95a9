pub mod Interface
pub mod Bounds
