mod Wording
mod Strays
mod Ranges
mod Naming
pub mod Claims
