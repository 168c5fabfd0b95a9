pub mod Interface
pub mod Lengths
