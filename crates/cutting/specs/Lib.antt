pub mod Policy
pub mod Cutting
