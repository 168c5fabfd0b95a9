pub mod Policy
pub mod Steps
