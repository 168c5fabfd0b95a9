pub mod Querying
pub mod Conditions
pub mod Working
