pub mod Passes
pub mod Stores
