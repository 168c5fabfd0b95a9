mod Wording
pub mod Claims
