pub mod Ones
pub mod Combining
pub mod Moving
