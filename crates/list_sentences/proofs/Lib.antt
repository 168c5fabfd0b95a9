mod Wording
mod Searching
mod Naming
pub mod Claims
