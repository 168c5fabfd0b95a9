mod Wording
mod Onward
mod Naming
pub mod Claims
