pub mod Finding
pub mod Stores
