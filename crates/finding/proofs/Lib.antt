pub mod Entries
pub mod Searches
pub mod Finding
pub mod Sizes
pub mod Levels
