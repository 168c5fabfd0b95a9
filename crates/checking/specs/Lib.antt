pub mod Checking
pub mod Walks
