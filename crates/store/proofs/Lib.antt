pub mod Keys
pub mod Chains
pub mod Searches
pub mod Stores
pub mod Adding
pub mod Notes
