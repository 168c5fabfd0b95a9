pub mod Combining
pub mod Moves
