pub mod Walks
pub mod Adding
pub mod Gathering
