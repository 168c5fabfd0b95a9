pub mod Statements
pub mod Reasons
pub mod Sources
pub mod Reaching
pub mod Counting
pub mod Searches
pub mod Loads
