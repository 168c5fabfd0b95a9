pub mod Searching
pub mod Stores
