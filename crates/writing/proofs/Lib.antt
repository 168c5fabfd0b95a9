pub mod Shifting
pub mod Clearing
pub mod Placing
pub mod Inserting
pub mod Gathering
pub mod Holding
pub mod Writing
