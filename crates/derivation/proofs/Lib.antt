pub mod Positions
pub mod Claims
