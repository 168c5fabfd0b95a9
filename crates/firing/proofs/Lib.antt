pub mod Heads
pub mod Moving
pub mod Firings
