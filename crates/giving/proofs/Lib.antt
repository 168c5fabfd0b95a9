pub mod Falling
pub mod Premises
pub mod Families
pub mod Giving
