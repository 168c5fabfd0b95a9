pub mod Gaining
pub mod Walks
pub mod Heads
pub mod Stores
