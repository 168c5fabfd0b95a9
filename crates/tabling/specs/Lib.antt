pub mod Tabling
pub mod Stores
