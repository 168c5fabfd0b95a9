pub mod Levels
pub mod Stores
